pub mod graph
pub mod Value
pub mod Urls
