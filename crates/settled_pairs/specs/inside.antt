pub mod Near
pub mod Ways
pub mod Sums
pub mod FoundRows
