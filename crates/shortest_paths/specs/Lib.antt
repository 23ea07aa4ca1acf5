-- What the public contracts are defined by.
pub mod Paths
-- What the crate's functions promise each other.
pub mod Search
