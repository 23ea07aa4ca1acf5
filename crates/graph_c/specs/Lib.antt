-- What the public contracts rest on.
pub mod MediaTypes
pub mod Text
pub mod Finding
pub mod Told
pub mod Answer
pub mod Calls
pub mod Rewrite
pub mod Exports
pub mod Mentions
pub mod Declarations
pub mod Build
pub mod Owned
pub mod Graph
