pub mod FirstRefusals
pub mod Files
pub mod Turns
