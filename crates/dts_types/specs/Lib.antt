-- types of expressions
pub mod Types
-- parts of parameters
pub mod Params
