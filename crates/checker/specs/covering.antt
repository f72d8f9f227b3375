pub mod Check
pub mod route
