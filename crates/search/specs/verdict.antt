pub mod Demand
pub mod Kept
pub mod route
