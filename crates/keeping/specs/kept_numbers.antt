pub mod Numbers
pub mod route
