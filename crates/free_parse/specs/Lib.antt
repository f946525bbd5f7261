pub mod FreeGraphs
pub mod Cursors
pub mod FoundReadings
pub mod ParseTexts
pub mod inside
