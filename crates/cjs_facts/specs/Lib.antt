-- the facts of a program
pub mod Facts
-- what expressions look like
pub mod Looks
-- what a program exports
pub mod Exports
