pub mod Placed
pub mod Together
