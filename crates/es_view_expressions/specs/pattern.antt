-- patterns
pub mod Pat
-- patterns that may have `?` or a type behind them
pub mod Marked
-- properties of object patterns
pub mod PatProp
