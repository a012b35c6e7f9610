pub mod Report
pub mod Verdicts
pub mod Reading
pub mod promises
