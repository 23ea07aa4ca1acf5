pub mod items_lemmas
-- the node of a program
pub mod Programs
-- what an owner keeps
pub mod Owners
-- where the line behind `#!` is cut
pub mod CutLemmas
