pub mod status
pub mod checking
pub mod gathering
