-- ---- what the public contracts rest on
pub mod Atomic
pub mod Course
pub mod WriteLaw
pub mod Tries
pub mod Climb
-- ---- what the functions promise each other
pub mod Steps
