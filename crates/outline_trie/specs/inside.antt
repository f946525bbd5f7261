-- What only private functions, invariants and proofs cite.
pub mod Children
pub mod Rooms
pub mod RowsOf
pub mod Tables
pub mod Invariants
