-- What the functions inside the crate promise each other.
pub mod Offsets
pub mod Parts
pub mod Blocks
pub mod Invariants
