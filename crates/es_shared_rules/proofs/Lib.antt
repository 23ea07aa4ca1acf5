pub mod predicates_lemmas
