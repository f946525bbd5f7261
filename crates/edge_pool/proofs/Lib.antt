pub mod ClassLemmas
pub mod MapLemmas
pub mod ListedLemmas
mod CellLemmas
mod CutLemmas
mod StepLemmas
mod PoolLemmas
mod LoopLemmas
