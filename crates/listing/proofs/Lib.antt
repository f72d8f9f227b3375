pub mod list_refusal
pub mod Agreed
pub mod Held
pub mod Unique
