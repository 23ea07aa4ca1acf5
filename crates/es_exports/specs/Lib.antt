-- what a program exports
pub mod Exports
-- the names of parts of exports
pub mod Parts
-- a name behind `as`
pub mod Named
