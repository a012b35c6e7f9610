pub mod KeptLists
pub mod Feeding
