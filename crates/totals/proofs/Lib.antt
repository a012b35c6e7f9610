pub mod Currents
pub mod RecordSums
pub mod FewRecords
pub mod NetBounds
pub mod AcceptedTotals
