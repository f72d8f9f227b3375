pub mod SearchCameGoesOn
pub mod SearchOutputSend
pub mod Coming
pub mod Rest
