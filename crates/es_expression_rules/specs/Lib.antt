-- levels of operators, over any operand
pub mod Levels
-- alternatives of rows that have readers of their own
pub mod Bases
