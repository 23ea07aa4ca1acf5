-- targets
pub mod Targets
