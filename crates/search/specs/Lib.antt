pub mod rows
pub mod noting
pub mod order
pub mod leap
pub mod sweep
pub mod verdict
pub mod section
