pub mod Bools
pub mod Laying
