pub mod Begun
pub mod Desk
pub mod Statements
