pub mod Before
pub mod Cases
pub mod Chain
pub mod Findings
pub mod Links
pub mod route
pub mod due
pub mod link_step
