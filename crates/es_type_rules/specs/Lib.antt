pub mod predicates
pub mod ends
