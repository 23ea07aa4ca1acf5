-- when a tree is derived from the tokens of a text
pub mod Derives
