pub mod Translations
pub mod inside
