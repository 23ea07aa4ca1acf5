-- a member with its modifiers, by what stands behind them
pub mod Behind
