-- what each node shows, from what its parts show
pub mod Shown
-- the same of the bodies of overloads
pub mod Listed
-- programs with their declarations
mod Worked
