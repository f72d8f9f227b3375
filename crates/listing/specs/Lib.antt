pub mod Carried
pub mod Listed
pub mod putting
pub mod filling
pub mod list_refusal
pub mod failed_rules
pub mod blame_refusal
pub mod blaming
