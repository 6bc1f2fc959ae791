pub mod Faults
pub mod Bytes
pub mod Tokens
pub mod Forms
