pub mod Counted
pub mod Share
pub mod fitting
pub mod tally
pub mod audit
