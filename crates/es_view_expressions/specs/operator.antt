-- operators
pub mod Operator
-- chains that lean left
pub mod Lean
