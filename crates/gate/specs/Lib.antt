pub mod Examples
pub mod Gate
pub mod Paper
pub mod Value
pub mod route
