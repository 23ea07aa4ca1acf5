pub mod HeadersLemmas
