pub mod Made
pub mod route
