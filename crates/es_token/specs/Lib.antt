-- what a token is
pub mod Plain
