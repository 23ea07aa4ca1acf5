pub mod pattern_lemmas
