-- what the public contract rests on
pub mod Reference
-- what the functions inside the crate promise each other
pub mod Faults
pub mod Steps
