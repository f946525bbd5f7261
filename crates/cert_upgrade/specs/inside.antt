-- What only private functions, invariants and proofs cite.
pub mod Uppers
pub mod Stages
pub mod Puts
