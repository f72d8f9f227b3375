pub mod Broken
pub mod SearchLies
