pub mod Grammar
pub mod Kinds
