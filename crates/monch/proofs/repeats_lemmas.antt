pub mod RoundLemmas
pub mod RepeatLemmas
pub mod AgreeLemmas
pub mod RoomLemmas
pub mod Theorems
