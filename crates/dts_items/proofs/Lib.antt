-- which nodes are statements, declarations, imports and exports
pub mod LabelLemmas
-- what declarations are by the rules
pub mod SortLemmas
-- what the rules make of items
pub mod RuleLemmas
-- statements and items in turns
pub mod TurnLemmas
-- imports and exports
pub mod ExportLemmas
-- which expressions are names
pub mod NameLemmas
-- defaults
pub mod DefaultLemmas
-- programs
pub mod ProgramLemmas
-- declarations
pub mod DeclLemmas
-- namespaces
pub mod BlockLemmas
