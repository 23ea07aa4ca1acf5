-- ---- what the public contracts rest on
pub mod Blanks
pub mod Forgiving
pub mod Front
pub mod Data
