pub mod types
pub mod cst
-- where a row stands; the rows and the alternatives that make a node are in src/rows.rt
pub mod Rows
-- the rows and the alternatives of types, by the code's names
pub mod TypeNames
-- a table inside a table: the types, and the names that imports and exports bind
pub mod Embedding
-- the areas of the table, the table
pub mod Expressions
pub mod Functions
pub mod Classes
pub mod Statements
pub mod Declarations
pub mod Items
pub mod Table
-- what is asked of a tree besides the rows
pub mod Conditions
-- what is read as a program, for worked rows
pub mod ProgramReader
