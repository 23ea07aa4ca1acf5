-- the parts of a node, of a group and of a list, as a row has them
pub mod Parts
-- where sites stand among the parts of a node
pub mod Plan
-- attributes, by the alternative of a node and over turns
pub mod Given
-- where a module can be named at all
pub mod Named
-- what is left to be taken
pub mod Left
