-- the tree that is kept of a plain tree
pub mod Slim
