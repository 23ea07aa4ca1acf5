-- ---- what the public contract rests on
pub mod OwnText
-- ---- what the functions promise each other
pub mod Steps
