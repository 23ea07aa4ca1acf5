-- What the public contract is defined by.
pub mod Components
-- What the crate's functions promise each other.
pub mod Finish
pub mod Gather
pub mod Condensed
