pub mod types_lemmas
pub mod Sets
pub mod OnRows
mod OnKeys
pub mod Languages
mod TypesClaims
mod RowClaims
mod Claims
pub mod LeanClaims
pub mod MappedLemmas
pub mod Theorems
mod WorkedDeclarations
mod WorkedExpressions
mod WorkedRefusals
mod WorkedPrograms
mod WorkedErrors
mod WorkedHeights
