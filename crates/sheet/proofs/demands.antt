pub mod Again
pub mod Answered
pub mod Demand
pub mod Editions
pub mod Unique
pub mod Whole
