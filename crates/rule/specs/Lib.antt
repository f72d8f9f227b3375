pub mod Meaning
pub mod bits
pub mod accept
pub mod band
