-- What the public contracts rest on.
pub mod Requests
-- What the crate's functions promise each other.
pub mod Inside
