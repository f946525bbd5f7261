pub mod Stops
pub mod Answers
pub mod Endings
pub mod Forms
