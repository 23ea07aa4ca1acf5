pub mod types
pub mod names
pub mod members
