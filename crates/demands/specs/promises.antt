pub mod Demand2
pub mod Demand3
pub mod CutBytes
pub mod Examples
