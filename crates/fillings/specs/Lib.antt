pub mod Fillings
pub mod PossibleStates
pub mod Flags
pub mod Outputs
pub mod Charge
pub mod Bounds
pub mod promises
