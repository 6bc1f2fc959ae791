pub mod Pasts
pub mod Digits
