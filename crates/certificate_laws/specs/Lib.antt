pub mod Closures
pub mod Checks
pub mod RowTests
pub mod Validity
pub mod inside
