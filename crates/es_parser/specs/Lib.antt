-- what the public contract rests on, besides `Derives` of `es_lowering::derives`
pub mod Answers
-- when an arrow or a pattern opens at a token
pub mod Heads
-- ---- what the functions inside the crate promise each other
pub mod Made
