pub mod Found
pub mod Steps
