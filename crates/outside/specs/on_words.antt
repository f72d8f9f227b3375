pub mod Gates
pub mod Joins
