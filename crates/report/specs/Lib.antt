pub mod Refusals
pub mod Replays
pub mod Reports
pub mod inside
