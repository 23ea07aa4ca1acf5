-- the names that patterns and declarations bind
pub mod Names
-- what a walk adds
pub mod Adds
-- where a text is cut
pub mod Cuts
