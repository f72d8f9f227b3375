pub mod SearchCuts
pub mod SearchRefused
pub mod SearchIsWidth
pub mod Exact
pub mod Joining
pub mod Outcome
pub mod Widths
pub mod Worked
