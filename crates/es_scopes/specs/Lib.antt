-- where names and scopes stand in a node
pub mod Plan
-- the names and scopes of a tree
pub mod Marks
-- the numbers of scopes
pub mod Numbers
