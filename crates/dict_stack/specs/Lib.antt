pub mod Stacks
pub mod Appearances
pub mod Faults
pub mod Finding
pub mod inside
