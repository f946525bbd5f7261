pub mod Conversions
pub mod Reading
