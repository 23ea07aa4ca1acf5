-- what a walk over marks keeps
pub mod Stacks
-- numbers by spellings
pub mod Spelt
-- the tokens that each scope declares
pub mod Meets
-- tokens that cut their text
pub mod Cuts
