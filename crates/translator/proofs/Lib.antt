pub mod EndLemmas
pub mod AdvanceLemmas
pub mod PushLemmas
pub mod CollectLemmas
