pub mod OrderLemmas
mod GrowLemmas
mod LengthLemmas
mod TableLemmas
mod ExtendLemmas
mod ChildLemmas
pub mod DepthLemmas
pub mod LookLemmas
mod RowLemmas
mod CountLemmas
mod RoomLemmas
mod SearchLemmas
mod MadeLemmas
