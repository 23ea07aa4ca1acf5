-- the names of each form
pub mod Equations
-- names that are tokens
pub mod Leaves
-- lists and turns
pub mod Lists
-- elements of arrays
pub mod Elements
-- patterns
pub mod Forms
-- names of functions, classes and namespaces
pub mod Heads
-- declarations
pub mod DeclForms
-- items that no view knows
pub mod Others
