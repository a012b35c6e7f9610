pub mod Records
pub mod Sections
pub mod Coverage
pub mod Acceptance
pub mod Next
pub mod Writing
pub mod inner
pub mod promises
