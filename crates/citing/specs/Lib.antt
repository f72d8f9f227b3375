pub mod Citation
pub mod Examples
pub mod linked
