pub mod Shared
pub mod Answered
pub mod Same
