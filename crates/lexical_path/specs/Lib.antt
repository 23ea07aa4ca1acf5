-- ---- what the public contracts rest on
pub mod Paths
pub mod Specifiers
