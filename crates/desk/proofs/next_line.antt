pub mod SearchTake
pub mod Told
