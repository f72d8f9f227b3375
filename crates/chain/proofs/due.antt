pub mod SearchBetter
pub mod Best
pub mod Starts
pub mod Walk
