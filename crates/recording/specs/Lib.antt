pub mod Recorder
pub mod inner
