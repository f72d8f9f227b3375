pub mod Bit
pub mod Joined
pub mod Masks
pub mod Next
pub mod Turn
pub mod With
