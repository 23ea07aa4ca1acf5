-- laws of reading a row of entries
pub mod Rows
-- labels that differ
pub mod Labels
-- laws of writing one
pub mod Written
-- trees side by side
pub mod Forests
-- where a node stands
pub mod Places
-- what stands in no role
pub mod Others
