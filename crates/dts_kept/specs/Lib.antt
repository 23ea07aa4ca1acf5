-- types as they stand, and frozen
pub mod Kept
