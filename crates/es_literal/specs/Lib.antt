pub mod spelling
pub mod literal_text
pub mod Strings
pub mod Values
pub mod Quotes
