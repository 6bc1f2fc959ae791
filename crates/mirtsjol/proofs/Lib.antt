pub mod FirstLine
pub mod Cutting
pub mod Kept
pub mod Spelled
