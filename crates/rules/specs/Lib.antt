pub mod Samples
pub mod Table
pub mod Quantities
pub mod Evaluation
