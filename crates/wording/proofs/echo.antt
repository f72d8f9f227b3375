pub mod Accepted
pub mod Back
pub mod Pieces
pub mod Rows
pub mod Tokens
pub mod Worded
pub mod Worked
