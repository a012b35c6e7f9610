pub mod Lanes
pub mod Plan
pub mod Steps
pub mod Firsts
pub mod inner
pub mod promises
