pub mod Cuts
pub mod Lines
pub mod Keeping
pub mod Refusals
pub mod Verdicts
pub mod Texts
pub mod Sessions
pub mod Spelled
