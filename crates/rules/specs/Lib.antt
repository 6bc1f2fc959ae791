pub mod Pieces
pub mod Images
pub mod Among
pub mod Sides
pub mod Numbered
pub mod Places
pub mod Six
pub mod Laws
