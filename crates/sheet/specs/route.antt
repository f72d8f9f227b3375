pub mod Held
pub mod Laid
pub mod Shape
pub mod Stands
