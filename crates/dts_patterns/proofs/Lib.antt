-- what each form of a pattern is in a type
pub mod Equations
-- what written nodes are
pub mod Nodes
-- names
pub mod NameLemmas
-- keys
pub mod KeyLemmas
-- patterns, from what was written of their parts
pub mod Forms
-- elements of arrays
pub mod Elements
-- properties of objects
pub mod Props
-- patterns that may have `?` or a type behind them
pub mod WholeLemmas
