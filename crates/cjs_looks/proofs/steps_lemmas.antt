-- what strings and names say
pub mod Strings
