pub mod Runs
pub mod OwnCertificates
pub mod Written
pub mod Proving
pub mod inside
