pub mod CanonicalLemmas
