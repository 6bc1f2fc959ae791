pub mod Firsts
pub mod Spelt
pub mod Passed
pub mod Spanned
pub mod LiteralLists
pub mod Walked
pub mod TermSteps
pub mod LiteralSteps
