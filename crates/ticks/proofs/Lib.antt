pub mod AscendingHoles
pub mod Places
pub mod AcceptedBytes
pub mod CoveredOnce
pub mod Cuts
pub mod WrittenTraces
