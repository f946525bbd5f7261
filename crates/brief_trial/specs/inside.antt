-- What only private functions, invariants and proofs cite.
pub mod Found
pub mod Adding
pub mod Faults
