pub mod SamplePuts
pub mod GoodRecords
pub mod OfferSteps
pub mod Turns
