pub mod Exactly
pub mod Held
pub mod NoFit
pub mod SearchAccepts
pub mod Worked
pub mod Written
pub mod covering
