pub mod Calls
pub mod Lowest
pub mod Page
pub mod Reached
pub mod route
