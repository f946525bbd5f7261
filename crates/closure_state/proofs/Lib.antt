pub mod ChainLemmas
pub mod BoundLemmas
pub mod RowLemmas
pub mod RowsLemmas
pub mod WaitLemmas
pub mod LeftLemmas
pub mod StateLemmas
pub mod FlagLemmas
