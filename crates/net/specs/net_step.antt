pub mod Named
pub mod Step
