pub mod SearchIntervalWithin
pub mod Intervals
