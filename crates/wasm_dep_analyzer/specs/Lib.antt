-- what the public contracts rest on
pub mod Reading
pub mod Values
pub mod Types
pub mod Imports
pub mod Exports
pub mod Sections
pub mod Module
-- what the functions inside the crate promise each other
pub mod Steps
