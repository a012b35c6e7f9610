pub mod Live
pub mod inner
