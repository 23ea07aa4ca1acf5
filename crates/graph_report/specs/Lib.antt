-- ---- what the public contracts rest on
pub mod Report
pub mod Summary
pub mod Orders
pub mod Adds
