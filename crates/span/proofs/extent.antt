pub mod Ops
pub mod SearchEnds
pub mod Searched
pub mod Spans
pub mod Turn
pub mod Way
