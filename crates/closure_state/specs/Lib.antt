pub mod NodeStates
pub mod Moving
pub mod Waits
pub mod inside
