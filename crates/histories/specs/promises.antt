pub mod OwningUp
pub mod Case
