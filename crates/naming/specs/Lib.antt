pub mod Names
pub mod by_name
pub mod named
pub mod spoken
