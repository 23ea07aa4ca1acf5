pub mod Innermost
mod Worked
