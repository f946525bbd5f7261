-- What only private functions, invariants and proofs cite.
pub mod Left
pub mod Places
pub mod Runs
pub mod Uppers
pub mod Founds
pub mod RowAnswers
pub mod Moves
pub mod LeastDistances
