pub mod CertLines
pub mod CertReading
pub mod CertTexts
pub mod CertFaults
pub mod Readers
pub mod Writers
pub mod inside
