-- the attribute of an import
pub mod Attributes
-- nodes of the typed tree, by their kind
pub mod Parts
-- the sites of a typed tree
pub mod Sites
