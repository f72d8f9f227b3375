pub mod Bare
pub mod Marked
pub mod OneWay
pub mod Opened
