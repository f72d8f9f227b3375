pub mod Meeting
pub mod Reasons
