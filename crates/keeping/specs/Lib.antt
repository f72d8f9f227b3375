pub mod kept_numbers
pub mod kept_changes
pub mod on_kept
