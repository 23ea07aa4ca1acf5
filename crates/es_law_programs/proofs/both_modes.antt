mod Carries
mod Rules
mod Items
pub mod Rows
mod Begins
mod Imports
mod Once
pub mod Theorems
pub mod Decided
