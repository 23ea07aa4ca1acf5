pub mod ModifierLemmas
pub mod FieldLemmas
