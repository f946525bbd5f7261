pub mod Histories
pub mod Tables
pub mod Rules
pub mod inside
