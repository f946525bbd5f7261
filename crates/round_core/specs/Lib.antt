pub mod Rounds
pub mod Searches
pub mod Machines
pub mod Hands
pub mod inside
