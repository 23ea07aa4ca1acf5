-- names of types, with arguments or without
pub mod Reference
-- arguments of types
pub mod Arguments
-- parameters of types
pub mod TypeParams
-- names with dots
pub mod Entity
