pub mod trial_tally
pub mod trial_direct
pub mod trial_wheel
