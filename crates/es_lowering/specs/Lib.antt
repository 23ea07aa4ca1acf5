pub mod derives
-- what the parts of a plain tree are
pub mod Value
pub mod Texts
pub mod Operators
-- what each alternative becomes, by areas
pub mod Expressions
pub mod Patterns
pub mod Functions
pub mod Classes
pub mod Statements
pub mod Modules
-- of types
pub mod TypeTexts
pub mod TypeNames
pub mod TypePatterns
pub mod TypeMembers
pub mod Types
-- what TypeScript adds
pub mod TypedParts
pub mod TypedFunctions
pub mod TypedExpressions
pub mod TypedStatements
-- the whole
pub mod Lowering
