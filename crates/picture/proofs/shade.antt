pub mod SearchAllPass
pub mod Counted
pub mod Words
