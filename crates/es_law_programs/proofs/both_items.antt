-- which alternatives are statements, and which imports and exports
mod Labels
-- what a statement is as an item
mod Values
-- the laws that other crates name
pub mod Theorems
