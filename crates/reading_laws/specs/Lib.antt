pub mod Readings
pub mod DanglingSuffixes
pub mod Forks
pub mod ForkNumbers
pub mod ChosenReadings
