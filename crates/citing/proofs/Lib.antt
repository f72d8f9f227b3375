pub mod Texts
pub mod Worked
