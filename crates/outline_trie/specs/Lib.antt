pub mod Tries
pub mod Causes
pub mod inside
