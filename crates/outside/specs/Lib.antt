pub mod Files
pub mod Faults
pub mod Sink
pub mod Places
pub mod Script
pub mod HeldFiles
pub mod Mem
pub mod inside
