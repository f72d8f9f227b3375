pub mod SearchAllZero
pub mod SearchRising
