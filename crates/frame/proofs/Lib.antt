pub mod SearchReadingCodeAlone
pub mod SearchReadingBare
mod Alone
pub mod Editions
pub mod Fit
pub mod OnPage
pub mod ReadBack
pub mod Rows
pub mod Saying
pub mod Unique
