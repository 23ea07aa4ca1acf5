-- statements that stand by themselves
pub mod Stmt
-- loops, `switch` and `try`
pub mod Compound
-- blocks
pub mod Block
