pub mod Cases
pub mod Demand
pub mod Join
pub mod interval
pub mod refusal
pub mod steps
pub mod extent
