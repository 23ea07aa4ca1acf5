-- further parts of names with dots
pub mod PostLemmas
-- what is no name of a type
pub mod Claims
-- names with dots
pub mod ChainLemmas
-- keys
pub mod KeyLemmas
