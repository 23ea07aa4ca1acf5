-- the declarations of a source
pub mod Answers
-- ---- what the functions inside the crate promise each other
pub mod Steps
