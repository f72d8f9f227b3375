pub mod Before
pub mod Exchange
pub mod Paper
pub mod Talk
pub mod route
