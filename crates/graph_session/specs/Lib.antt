-- What the public contracts rest on.
pub mod Asking
pub mod Session
pub mod Records
pub mod Calls
