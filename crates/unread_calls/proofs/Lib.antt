pub mod CallsLemmas
