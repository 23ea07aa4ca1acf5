pub mod words_lemmas
pub mod GraphLemmas
pub mod DueLemmas
pub mod SumLemmas
pub mod RunLemmas
