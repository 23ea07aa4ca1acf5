pub mod items
pub mod names
