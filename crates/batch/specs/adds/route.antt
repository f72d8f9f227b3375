pub mod Course
pub mod Few
