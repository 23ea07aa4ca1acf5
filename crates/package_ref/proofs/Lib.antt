pub mod ReferenceLemmas
pub mod StepsLemmas
pub mod CombinatorLemmas
pub mod AnswerLemmas
pub mod Theorems
