-- what literals show
pub mod Shown
-- all other expressions
pub mod Others
-- words, strings, regular expressions, templates
pub mod Words
-- numbers and BigInts
pub mod NumberLemmas
