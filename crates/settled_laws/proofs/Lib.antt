pub mod SettledLemmas
pub mod ChosenOpenLemmas
