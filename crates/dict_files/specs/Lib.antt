pub mod DictFiles
pub mod Refusals
pub mod Contents
pub mod Loading
pub mod inside
