-- what a language has
pub mod Languages
-- the language in which a grammar is written, and what it means
pub mod Key
pub mod Productions
pub mod Plain
pub mod Fits
-- the reader of a grammar, and what its table has to meet
pub mod Reader
pub mod Checks
pub mod Tells
