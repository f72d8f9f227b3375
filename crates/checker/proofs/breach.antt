pub mod Exactly
pub mod Walk
