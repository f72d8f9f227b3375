pub mod Digits
pub mod Numeral
