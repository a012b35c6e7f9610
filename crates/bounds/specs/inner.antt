pub mod Marks
pub mod Firsts
