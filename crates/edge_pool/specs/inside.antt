-- What only private functions, invariants and proofs cite.
pub mod Cuts
pub mod Runs
