-- ---- what the public contracts rest on
pub mod References
-- ---- what the functions inside the crate promise each other
pub mod Steps
