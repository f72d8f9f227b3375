pub mod Heard
pub mod Lines
pub mod OnPage
pub mod Said
pub mod Unique
