pub mod Accepted
pub mod Check
pub mod Examples
pub mod covering
pub mod finding
pub mod outset
pub mod clause
