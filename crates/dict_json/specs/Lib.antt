pub mod Reading
pub mod Dictionaries
pub mod Outcomes
pub mod Standing
pub mod Faults
pub mod Generated
pub mod inside
