pub mod KeptLemmas
pub mod SameLemmas
