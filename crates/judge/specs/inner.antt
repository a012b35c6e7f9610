pub mod Walk
pub mod Ending
