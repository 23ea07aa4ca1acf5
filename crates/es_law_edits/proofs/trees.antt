mod Places
mod Pieces
mod Slices
mod Texts
pub mod Theorems
