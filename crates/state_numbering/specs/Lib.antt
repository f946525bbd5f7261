pub mod Numberings
pub mod Causes
pub mod ByNumber
pub mod Cursors
pub mod inside
pub mod Following
