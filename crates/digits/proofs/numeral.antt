pub mod SearchNumeralDigit
pub mod Fit
pub mod Quotients
pub mod Stages
