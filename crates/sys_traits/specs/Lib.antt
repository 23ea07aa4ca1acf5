-- ---- what the public contracts rest on
pub mod Errors
pub mod Paths
pub mod Files
pub mod State
pub mod Calls
pub mod Memory
-- ---- what the functions inside the crate promise each other
pub mod Steps
