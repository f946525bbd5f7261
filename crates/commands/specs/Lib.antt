pub mod Commands
pub mod Reading
pub mod Inputs
pub mod Written
