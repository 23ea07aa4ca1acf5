pub mod UnitLemmas
pub mod TemplateLemmas
pub mod ReaderLemmas
pub mod DigitLemmas
pub mod NumberLemmas
pub mod AsciiLemmas
pub mod RegExpLemmas
