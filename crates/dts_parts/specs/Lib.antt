-- types after patterns
pub mod Groups
-- patterns of parameters
pub mod Patterns
-- parameters
pub mod Params
-- what is written, by whatever the rules go
pub mod Steps
-- functions without their bodies
pub mod Functions
