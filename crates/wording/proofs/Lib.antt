pub mod Sizes
pub mod Texts
