pub mod CommandLaw
pub mod Written
pub mod BriefTexts
