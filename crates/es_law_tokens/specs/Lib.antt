pub mod brackets
