mod ReadableLemmas
mod DueLemmas
mod RunLemmas
mod WordLemmas
pub mod ProgramLemmas
