-- names
pub mod Names
