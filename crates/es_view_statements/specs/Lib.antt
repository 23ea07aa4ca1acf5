pub mod stmt
pub mod class
pub mod decl
pub mod param
