-- the parts in a row
pub mod RowLemmas
-- drafts that grow as parts do
pub mod WalkLemmas
-- rows in which all is kept
pub mod KeptLaws
