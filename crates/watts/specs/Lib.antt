pub mod Examples
pub mod Nearest
pub mod Watts
pub mod route
