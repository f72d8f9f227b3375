pub mod Interval
pub mod Op
