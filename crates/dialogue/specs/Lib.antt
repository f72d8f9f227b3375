pub mod Heard
pub mod Hears
pub mod Takes
pub mod upshot
pub mod saying
