-- What only proofs and private functions cite.
pub mod Holding
pub mod OnLines
