pub mod OnRows
mod OnKeys
mod TypeClaims
pub mod OrderLemmas
pub mod Theorems
mod WorkedTypes
mod WorkedRefusals
