-- kinds of bindings
pub mod Kinds
-- where declarations are in a node
pub mod Plan
-- the declarations of a tree
pub mod Events
-- what a program declares, and look-ups
pub mod Scope
