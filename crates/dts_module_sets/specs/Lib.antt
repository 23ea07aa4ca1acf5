-- what the items of a module add to its sets
pub mod Items
