-- what the parts of a plain tree are on the way to its sites
pub mod Part
-- the sites of each alternative, and of a whole tree
pub mod Own
