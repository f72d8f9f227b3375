pub mod Wording
pub mod form_rows
pub mod signs
pub mod echo
