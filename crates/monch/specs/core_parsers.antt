pub mod Outcome
pub mod Seen
pub mod Failures
pub mod Suffix
