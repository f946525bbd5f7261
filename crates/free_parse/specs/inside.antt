-- What only private functions, invariants and proofs cite.
pub mod Parts
pub mod Waits
pub mod Forks
pub mod Graphs
pub mod Halves
pub mod Walks
