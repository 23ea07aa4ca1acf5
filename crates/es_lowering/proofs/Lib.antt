pub mod derives
pub mod Equations
mod WorkedPrograms
