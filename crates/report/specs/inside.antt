pub mod Indexes
pub mod Bars
