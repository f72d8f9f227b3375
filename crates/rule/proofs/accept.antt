pub mod Accepted
pub mod Choices
pub mod Every
pub mod Grounds
