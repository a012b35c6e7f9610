pub mod Calls
pub mod promises
