pub mod Moved
pub mod Refusing
pub mod SteppedBack
pub mod SteppedForward
