-- names by their spellings and numbers
pub mod Ids
-- alternatives by what they become
pub mod Forms
-- what is known of a module's names
pub mod Known
