pub mod FreeWords
pub mod ForkLemmas
pub mod ForkNumberLemmas
pub mod HalfLemmas
pub mod ChosenReadingLemmas
pub mod FewForks
pub mod ForkBounds
