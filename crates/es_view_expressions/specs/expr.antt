-- primary expressions
pub mod Primary
