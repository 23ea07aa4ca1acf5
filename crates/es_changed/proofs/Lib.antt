-- laws of reading a changed row
pub mod Rows
-- laws of writing one
pub mod Written
-- laws of what is kept
pub mod Kept
-- what forms of declarations and members are
pub mod Equations
