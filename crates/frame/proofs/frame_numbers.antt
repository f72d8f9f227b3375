pub mod SearchEditionOf
pub mod SearchOpens
