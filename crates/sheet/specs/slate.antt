pub mod route
pub mod stepping
pub mod slate_calls
pub mod slate_add
