pub mod repeats_lemmas
pub mod FrontLemmas
pub mod Theorems
