pub mod FormLemmas
pub mod ListLemmas
pub mod WrapLemmas
pub mod ChainLemmas
pub mod LowLemmas
pub mod RoomLemmas
pub mod OneLemmas
