-- members of types in braces
pub mod Member
-- keys of members and of properties of patterns
pub mod Key
-- patterns of parameters of types
pub mod Pat
-- properties of patterns of parameters of types
pub mod Prop
-- parameters of types of functions
pub mod Param
-- lists of parameters of types of functions
pub mod Params
