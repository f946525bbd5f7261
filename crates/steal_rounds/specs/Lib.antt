pub mod MadeMoves
pub mod inside
