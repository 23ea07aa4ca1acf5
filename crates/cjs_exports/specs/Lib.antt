pub mod names
