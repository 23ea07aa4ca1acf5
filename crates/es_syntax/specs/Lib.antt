-- what a row of entries holds
pub mod Held
-- the kept trees that it is
pub mod Trees
-- what a value is in a role
pub mod Roles
-- words of views
pub mod Views
-- what a writer leaves
pub mod Written
-- trees side by side
pub mod Forest
-- where a node stands
pub mod Places
