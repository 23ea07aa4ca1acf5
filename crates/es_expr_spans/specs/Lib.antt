-- the range of an expression
pub mod Spans
