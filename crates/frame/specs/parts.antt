pub mod Parts
pub mod Pattern
