pub mod SearchLemmas
pub mod FollowLemmas
pub mod PathLemmas
