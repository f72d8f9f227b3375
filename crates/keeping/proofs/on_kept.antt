pub mod Tells
pub mod Unique
