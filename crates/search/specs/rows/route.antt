pub mod Bands
pub mod OfRules
pub mod Rows
