pub mod Batch
pub mod route
