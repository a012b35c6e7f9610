pub mod Demand3
pub mod Bounds
pub mod Tests
pub mod Marked
