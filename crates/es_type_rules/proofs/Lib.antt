pub mod predicates_lemmas
pub mod ends_lemmas
