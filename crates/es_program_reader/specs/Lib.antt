-- when a tree is read from tokens
pub mod Derived
-- whether a kept tree is sound
pub mod Sound
-- when a tree is kept of a plain tree of a program
pub mod Program
-- the trees that a cursor over a row stands at
pub mod Rows
