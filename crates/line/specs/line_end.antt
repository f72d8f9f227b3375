pub mod End
pub mod route
