pub mod route
pub mod gate_refusal
