pub mod Clauses
pub mod First
