pub mod Laws
pub mod Tally
