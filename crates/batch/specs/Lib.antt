pub mod OneByOne
pub mod adds
pub mod begun
pub mod course
