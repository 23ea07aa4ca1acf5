pub mod Lists
mod Setting
mod Entries
mod Texts
mod Files
mod Sources
mod News
mod Reached
mod Finals
mod Ordered
mod Graphs
mod Apart
pub mod Theorems
