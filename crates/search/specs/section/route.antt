pub mod Section
pub mod Sides
pub mod Turns
