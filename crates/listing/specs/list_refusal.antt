pub mod Grounds
pub mod route
