pub mod Numbers
pub mod Rules
pub mod Limits
pub mod Turns
pub mod Positions
pub mod Justifications
pub mod Steps
