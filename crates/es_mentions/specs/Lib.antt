-- the nodes of a tree
pub mod Nodes
-- words and their places
pub mod Words
-- what a node is
pub mod Kinds
-- what a program mentions
pub mod Mentions
-- which tokens are gone
pub mod Bits
-- what is left while a walk is on its way
pub mod Left
-- what an empty list says
pub mod Quiet
