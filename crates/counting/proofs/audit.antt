pub mod Alike
pub mod Answers
pub mod Fitting
pub mod More
pub mod Order
pub mod Worked
