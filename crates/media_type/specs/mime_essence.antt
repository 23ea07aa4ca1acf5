pub mod Blanks
pub mod Essence
