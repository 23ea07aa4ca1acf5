-- what is told of parts
pub mod Seen
-- values, and what is met in them
pub mod Agrees
-- parts in each role
pub mod Roles
-- what the nodes of each alternative tell
pub mod Statements
pub mod Patterns
pub mod Expressions
pub mod Functions
pub mod Items
pub mod Chains
pub mod Assignments
-- all alternatives
pub mod Nodes
-- all trees
pub mod Trees
-- what is added
pub mod Given
pub mod BoundForms
pub mod CallViews
pub mod CallSteps
pub mod ChainSteps
-- rows, ways and stacks
pub mod RowLemmas
pub mod WalkLemmas
