pub mod steps_lemmas
pub mod objects_lemmas
-- parts that may not be there
pub mod Given
-- expressions that are not looked at
pub mod Odd
-- what further parts of a chain make
pub mod Links
-- primary expressions
pub mod Primaries
-- all other expressions
pub mod Others
-- looks by numbers of tokens
pub mod Keys
-- functions by their bodies
pub mod Functions
-- assignments
pub mod Assignments
-- plain forms
pub mod Plain
-- arguments
pub mod Args
-- which forms are harmless
pub mod Harms
-- what no view knows
pub mod Unknown
-- what is behind a call
pub mod Behind
