pub mod Repeat
pub mod Items
pub mod Separated
pub mod Agree
pub mod RepeatSuffix
pub mod Steps
pub mod Advance
