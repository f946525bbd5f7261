pub mod JsonFaults
pub mod ReadOutcomes
pub mod JsonReports
pub mod JsonLines
pub mod inside
