pub mod Judge
pub mod inner
