pub mod Sections
pub mod Sums
