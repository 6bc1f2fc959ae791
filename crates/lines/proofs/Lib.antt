pub mod Positions
pub mod Sealed
pub mod Covered
