-- What only private functions, invariants and proofs cite.
pub mod Places
pub mod Pieces
pub mod Reads
