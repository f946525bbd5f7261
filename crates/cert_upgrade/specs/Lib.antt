pub mod Forms
pub mod Upgrades
pub mod inside
