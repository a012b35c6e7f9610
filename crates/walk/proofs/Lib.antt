pub mod Looking
pub mod Standing
pub mod Starting
