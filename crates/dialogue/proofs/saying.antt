pub mod Case
pub mod SearchSays
pub mod Sentences
pub mod Unique
