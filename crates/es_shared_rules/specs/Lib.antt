pub mod predicates
