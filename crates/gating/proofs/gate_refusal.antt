pub mod SearchRefusalOf
pub mod Seen
