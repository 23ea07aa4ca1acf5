-- what the public contract rests on
pub mod Unread
pub mod Kinds
