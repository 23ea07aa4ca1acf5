pub mod brackets
pub mod ranges
