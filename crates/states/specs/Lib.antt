pub mod Records
pub mod Steps
pub mod Readings
pub mod Validity
pub mod inner
pub mod promises
