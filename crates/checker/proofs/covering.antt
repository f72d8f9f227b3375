pub mod Covering
pub mod EveryWord
pub mod Midway
pub mod Reasons
