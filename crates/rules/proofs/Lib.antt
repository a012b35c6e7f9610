pub mod CellCount
pub mod Evaluations
pub mod Quantities
pub mod Rows
pub mod Signed
pub mod Tops
