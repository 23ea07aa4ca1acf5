-- names and their types
pub mod NameLemmas
