pub mod Reply
pub mod route
