pub mod Cut
pub mod Few
pub mod OneByOne
pub mod Place
pub mod There
pub mod Unique
