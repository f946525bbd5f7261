pub mod Chosen
pub mod EntryConflicts
pub mod inside
