pub mod SearchEndNear
mod Eight
pub mod Lines
