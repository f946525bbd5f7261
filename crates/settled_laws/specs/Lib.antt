pub mod SettledPairs
pub mod OpenHits
pub mod OpenNumbers
pub mod ChosenOpenHits
