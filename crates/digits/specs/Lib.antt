pub mod hexadecimal
pub mod numeral
pub mod phrase
pub mod figure
