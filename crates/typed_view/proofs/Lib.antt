pub mod Crossings
pub mod PassedPieces
pub mod LineLemmas
pub mod CoverNumbers
