pub mod Stepping
pub mod Unchanged
