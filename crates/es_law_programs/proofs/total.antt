mod Uses
mod Needs
mod Words
mod Parts
mod Sound
mod Rules
mod Table
mod ExprForms
mod StmtForms
mod ModuleForms
mod TypeForms
mod Build
mod Rows
mod Once
mod TypeClaims
mod RowClaims
pub mod Theorems
