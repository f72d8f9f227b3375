pub mod Edition
pub mod Search
pub mod Word
pub mod line_width
