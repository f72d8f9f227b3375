pub mod Putting
pub mod Signed
pub mod Sizes
