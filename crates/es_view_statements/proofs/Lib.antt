pub mod decl_lemmas
