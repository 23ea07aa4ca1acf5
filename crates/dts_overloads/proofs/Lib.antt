-- laws of ranges among others
pub mod Laws
-- the ranges among those of each form
pub mod Equations
-- what is told of parts
pub mod Seen
-- values, and what is met in them
pub mod Agrees
-- parts in each role
pub mod Roles
-- what the nodes of each alternative tell
pub mod Statements
pub mod Patterns
pub mod Expressions
pub mod Functions
pub mod Items
pub mod Chains
-- all alternatives
pub mod Nodes
-- all trees
pub mod Trees
-- what is added
pub mod Given
-- rows, ways and stacks
pub mod RowLemmas
pub mod WalkLemmas
-- expressions that are no names
pub mod Keyless
pub mod NameLemmas
pub mod PathLemmas
-- functions, declarations and members in lists
pub mod HeadLemmas
pub mod StmtHeads
pub mod MemberHeads
-- what lists add
pub mod ListLemmas
