pub mod Cases
pub mod Demand
pub mod Net
pub mod Plain
pub mod route
pub mod net_step
pub mod net_tests
pub mod refusal
