pub mod Puts
pub mod Words
