-- what the ranges of bodies of overloads are
pub mod Overloads
-- which ranges are those of bodies of overloads
pub mod Among
-- where parts are
pub mod Plan
-- what is met on a way
pub mod Met
-- what is met in a tree
pub mod Own
-- what is left of a walk
pub mod Left
-- names as code has them
pub mod Names
-- functions and methods in lists
pub mod Heads
