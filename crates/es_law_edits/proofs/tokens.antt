mod Twins
mod Unquoted
mod Cuts
mod Alike
mod Keys
mod Places
mod Texts
mod Strings
mod Applied
pub mod Theorems
