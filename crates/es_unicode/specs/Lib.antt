pub mod Wide
pub mod Escapes
