pub mod Decimals
pub mod HexLines
pub mod Refusals
pub mod Verdicts
