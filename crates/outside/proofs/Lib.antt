pub mod ReadTurns
pub mod Known
pub mod Extended
pub mod Lists
