pub mod Keys
pub mod Spelling
pub mod Canonical
pub mod Reading
pub mod Faults
pub mod inside
