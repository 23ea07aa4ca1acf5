-- the styles of the alternatives
pub mod Table
-- how tokens stand
pub mod Own
-- tokens that no text has
pub mod Made
-- the pieces of a tree
pub mod Sheet
-- their lines
pub mod Lines
-- a text with parts of a source
pub mod Inked
-- pages with the lines of pieces
pub mod Paper
pub mod Laid
-- the trees in a row of entries
pub mod Rows
