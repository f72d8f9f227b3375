pub mod NoRules
pub mod Right
pub mod Rules
pub mod Solved
pub mod Unmoved
