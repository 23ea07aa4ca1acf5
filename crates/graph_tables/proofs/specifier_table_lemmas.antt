pub mod NumbersLemmas
pub mod ByTextLemmas
pub mod OrderLemmas
