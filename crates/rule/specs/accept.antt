pub mod Accept
pub mod Grounds
