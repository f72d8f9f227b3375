pub mod Agreement
pub mod Carried
pub mod Only
pub mod Passing
