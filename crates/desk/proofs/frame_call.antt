pub mod Coming
pub mod Unique
