pub mod State
pub mod Calls
pub mod inner
pub mod promises
