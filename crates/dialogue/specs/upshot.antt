pub mod Upshot
