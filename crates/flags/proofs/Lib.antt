pub mod Driven
pub mod OutputLaws
