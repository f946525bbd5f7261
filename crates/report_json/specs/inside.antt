pub mod Rests
pub mod Readings
pub mod Tokens
