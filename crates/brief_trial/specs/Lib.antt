pub mod Trials
pub mod Limits
pub mod inside
pub mod TrialTexts
