pub mod Forms
pub mod route
