pub mod Held
pub mod Notes
pub mod Numbers
pub mod Shape
