-- names in sets
pub mod Sets
