pub mod Covers
pub mod CoverLines
