pub mod SearchFailsAt
pub mod SearchBandAt
pub mod Copies
pub mod Drawn
pub mod Failing
pub mod OneMore
pub mod Passes
pub mod Reading
