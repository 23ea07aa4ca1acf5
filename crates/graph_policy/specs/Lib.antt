-- What the public contracts are defined by.
pub mod Pattern
pub mod Seen
pub mod Rules
pub mod Breach
-- What the crate's functions promise each other.
pub mod Steps
