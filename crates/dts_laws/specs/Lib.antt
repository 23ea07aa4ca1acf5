-- steps that only append to what was found
pub mod Appends
-- what stays of a module
pub mod Stays
