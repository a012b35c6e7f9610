pub mod Signed
pub mod Spaced
pub mod ByteLists
pub mod AreBytes
pub mod Puts
pub mod Copying
