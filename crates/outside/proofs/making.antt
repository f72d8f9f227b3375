pub mod Reached
pub mod Way
