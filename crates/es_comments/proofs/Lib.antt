mod LineLemmas
mod TokenLemmas
mod MapLemmas
mod PlacedLemmas
mod IteratorLemmas
