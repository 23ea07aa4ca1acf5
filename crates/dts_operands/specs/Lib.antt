-- alternatives that may have a type
pub mod Labels
-- literals, names, `new`
pub mod Leaves
-- `as`, `satisfies`
pub mod Sources
-- `Object.freeze`
pub mod Callees
