-- callees
pub mod Callees
-- getters of descriptors
pub mod Getters
-- calls
pub mod Calls
-- right sides
pub mod Rights
-- assignments
pub mod Assigns
-- declarators
pub mod Binds
