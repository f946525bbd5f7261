-- What only proofs and private functions cite.
pub mod Puts
pub mod RunEnds
