pub mod Free
pub mod Held
pub mod Unique
