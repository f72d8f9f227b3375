pub mod Chain
pub mod route
