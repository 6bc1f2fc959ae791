pub mod Bindings
pub mod Faults
pub mod Meanings
pub mod Rows
pub mod Questions
pub mod Kept
