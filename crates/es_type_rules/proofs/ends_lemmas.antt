pub mod Claims
pub mod LowLemmas
pub mod AnswerLemmas
pub mod EmbeddedLemmas
pub mod KeptLemmas
pub mod AngleLemmas
pub mod CloserLemmas
pub mod KeepLemmas
