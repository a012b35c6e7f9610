pub mod Traces
pub mod Cut
pub mod inner
pub mod promises
