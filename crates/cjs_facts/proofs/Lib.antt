-- lists
pub mod ListLemmas
-- the facts of each form
pub mod Equations
-- the looks of each form
pub mod Rolls
