-- ---- what the public contracts rest on
pub mod Placed
pub mod Standing
pub mod Iterators
-- ---- what the functions inside the crate promise each other
pub mod Steps
