pub mod canonical_url_lemmas
pub mod ImportsLemmas
pub mod RelativeLemmas
pub mod SetLemmas
pub mod FrontLemmas
pub mod ReadLemmas
pub mod TextsLemmas
pub mod Theorems
