-- what looks say of modules and names
pub mod Values
