pub mod route
