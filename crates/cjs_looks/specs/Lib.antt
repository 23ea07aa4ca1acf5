pub mod steps
pub mod objects
-- what the looks of expressions mean
pub mod Seen
-- expressions that are not looked at
pub mod Odd
-- what further parts of a chain make of it
pub mod Posts
-- kinds of expressions
pub mod Kinds
-- the first of arguments
pub mod Args
-- what is behind a call
pub mod Behind
