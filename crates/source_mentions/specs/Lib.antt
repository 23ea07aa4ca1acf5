-- what is answered
pub mod Answers
