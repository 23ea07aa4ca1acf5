pub mod EndLemmas
pub mod KnownLemmas
pub mod ModifierLemmas
pub mod PastLemmas
