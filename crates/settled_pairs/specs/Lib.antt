pub mod Finishes
pub mod SettledRows
pub mod inside
