pub mod WideLemmas
pub mod EscapeLemmas
