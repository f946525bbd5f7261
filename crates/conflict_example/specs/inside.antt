pub mod FirstHits
pub mod Spellings
pub mod FoundRows
pub mod Closures
