pub mod Claims
pub mod CastLemmas
pub mod LinkLemmas
pub mod LookLemmas
pub mod KeyLemmas
