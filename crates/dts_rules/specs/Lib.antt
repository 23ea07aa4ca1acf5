-- names, their numbers, and the three sets of a module
pub mod Sets
-- types that no text has
pub mod Made
-- what each node shows: its type as an expression, and what it is in a declaration
pub mod Rules
-- declarations, items and programs
pub mod Programs
-- the bodies of overloads
pub mod Ranges
