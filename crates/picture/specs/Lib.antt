pub mod Picture
pub mod route
pub mod shade
pub mod column
