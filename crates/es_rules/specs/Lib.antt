-- the reader that makes the tree that is kept of a plain tree
pub mod Bounded
-- what the values of the code stand for
pub mod Predict
-- what the functions of the crate promise each other
pub mod Steps
-- rules by the names of another table
pub mod Labelled
