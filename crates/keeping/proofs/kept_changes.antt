pub mod Changes
pub mod Unique
