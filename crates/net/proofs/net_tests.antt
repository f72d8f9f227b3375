pub mod SearchFits
pub mod Every
