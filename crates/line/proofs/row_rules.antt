pub mod SearchSignedWord
pub mod SearchRuleAt
pub mod Meaning
