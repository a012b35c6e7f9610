pub mod Flags
pub mod Outputs
