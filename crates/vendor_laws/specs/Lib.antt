-- What the laws speak of.
pub mod Written
pub mod Bundle
