mod Text
mod Read
mod Fresh
mod Says
mod Answered
mod Limit
pub mod Theorems
