pub mod OneWay
pub mod Places
