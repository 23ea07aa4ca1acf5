pub mod Equations
mod Given
pub mod Is
mod Exprs
mod Calls
mod Objects
mod More
mod Modules
mod Stmts
mod Patterns
mod Typed
mod Build
mod Kept
pub mod Theorems
