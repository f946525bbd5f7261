pub mod TrialsOnce
mod TrialStacks
mod MadeTrials
mod LimitLemmas
mod Adding
pub mod TrialOutlines
pub mod LineParts
pub mod NumberedTrials
