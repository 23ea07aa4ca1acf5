pub mod Cuts
mod Forms
mod Fine
mod Exprs
mod Patterns
mod Stmts
mod Modules
mod Typed
mod Build
mod Kept
pub mod Theorems
