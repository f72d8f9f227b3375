pub mod SearchGatesGateOf
