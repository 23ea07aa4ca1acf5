-- functions and classes as expressions
pub mod Function
-- what stands in a function
pub mod Head
-- what stands in a class
pub mod Class
