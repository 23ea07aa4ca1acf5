pub mod Words
pub mod Without
pub mod Asked
pub mod Groups
pub mod Ways
pub mod Faults
pub mod Verdicts
pub mod Declarations
pub mod Due
pub mod Run
-- what the functions inside the crate promise each other
pub mod Steps
