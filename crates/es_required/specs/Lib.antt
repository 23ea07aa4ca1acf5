pub mod Required
pub mod Seen
