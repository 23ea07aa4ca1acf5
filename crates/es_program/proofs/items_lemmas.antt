-- what holds of what may be there
mod Given
-- the roles of a node
mod Nodes
-- where declarations and statements stand
mod Stmts
-- where imports and exports stand, and what they tell
mod Decls
-- what is read of an item
pub mod ReadLemmas
-- the items of a program, one by one
pub mod Bodies
