pub mod Bitwise
pub mod route
