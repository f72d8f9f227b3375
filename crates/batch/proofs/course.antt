pub mod Added
pub mod UnderWay
