pub mod items
-- what a row is as a program
pub mod Typed
-- what contracts see of an owner
pub mod Owned
-- what stands behind an owner
pub mod Sources
-- the program that an owner is
pub mod Forms
-- where a text is cut
pub mod Cuts
