pub mod Deques
pub mod Rules
pub mod inside
