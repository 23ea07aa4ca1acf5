-- where facts are
pub mod Plan
-- what is met on a way
pub mod Met
-- the facts of a tree
pub mod Facts
-- what is left of a walk
pub mod Left
-- chains of calls
pub mod Chains
