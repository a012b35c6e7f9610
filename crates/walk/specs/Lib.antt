pub mod Walk
pub mod inner
