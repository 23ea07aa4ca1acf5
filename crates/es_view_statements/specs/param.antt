-- parameters
pub mod Param
-- lists of parameters
pub mod Params
-- signatures of TypeScript
pub mod Signature
