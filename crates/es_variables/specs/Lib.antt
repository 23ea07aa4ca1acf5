pub mod scope_numbers
pub mod scope_analysis
-- numbers by tokens
pub mod Numbers
-- names and variables by spellings
pub mod Table
-- what is kept of declarations
pub mod Kept
-- names with numbers
pub mod Numbered
