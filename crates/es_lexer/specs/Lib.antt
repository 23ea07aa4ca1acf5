-- what the public contracts rest on
pub mod Bytes
pub mod Words
pub mod Signs
pub mod Brackets
pub mod Pieces
pub mod Goal
pub mod Spelling
pub mod Readable
pub mod Gaps
pub mod Reads
pub mod Stops
pub mod Answers
-- what the functions of the crate promise each other
pub mod Look
pub mod Scan
pub mod Short
pub mod Spans
