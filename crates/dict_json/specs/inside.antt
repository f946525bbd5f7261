-- What only private functions, invariants and proofs cite.
pub mod Walks
pub mod Texts
