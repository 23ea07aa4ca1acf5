-- drafts
pub mod Drafts
-- what is written, where a part of the program is there
pub mod Written
