-- words, literals, templates and names as types
pub mod Simple
-- types that hold types
pub mod Compound
-- types of functions, and results that tell of a type
pub mod Function
-- elements of tuples
pub mod Element
