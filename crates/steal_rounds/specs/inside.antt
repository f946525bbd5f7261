pub mod Lists
pub mod Moves
pub mod Crews
pub mod Fronts
pub mod Records
pub mod Orders
pub mod Samples
