-- tests and predicates by name
pub mod Named
