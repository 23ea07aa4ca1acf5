-- alternatives of items
pub mod Labels
-- declarations
pub mod Decls
-- what declarations are by the rules
pub mod Sorts
-- items and statements in turns
pub mod Items
-- exports
pub mod Exports
-- programs
pub mod Programs
-- declarations before their `declare` is set
pub mod Changed
