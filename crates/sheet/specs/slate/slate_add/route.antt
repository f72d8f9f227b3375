pub mod Narrows
