pub mod SearchPast
pub mod SearchEndOf
pub mod Ends
