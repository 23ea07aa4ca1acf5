-- numbers that are zero
pub mod Zeros
-- callees
pub mod Callees
-- getters
pub mod Getters
-- descriptors
pub mod Describes
-- arguments
pub mod ArgumentForms
-- calls
pub mod CallForms
-- names
pub mod NameForms
-- right sides
pub mod RightForms
-- assignments
pub mod Assigns
-- declarators
pub mod Binds
-- answers
pub mod Answered
-- what no view knows
pub mod Unknown
