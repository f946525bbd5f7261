pub mod Classes
pub mod Pools
pub mod inside
