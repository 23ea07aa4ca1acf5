-- kinds of tokens, and what the written predicates look at
pub mod Words
-- the parts of a tree stand in order
pub mod Order
-- imports and exports of names: their rules
pub mod Modules
-- predicates of programs, by their areas
pub mod Expressions
pub mod Functions
pub mod Classes
pub mod Statements
pub mod Items
-- the types of TypeScript: their rows, the areas of their table, the table
pub mod TypeRows
pub mod TypeNames
pub mod Parameters
pub mod Members
pub mod Types
pub mod TypeTable
-- what is read as a type, for worked rows
pub mod TypeReader
