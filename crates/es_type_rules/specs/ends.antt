-- when a type is read from tokens
pub mod Derived
-- a reading to which answers further behind are kept
pub mod Kept
-- a reading to which answers are kept as a list of angles
pub mod Angles
