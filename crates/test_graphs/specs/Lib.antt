-- What contracts see of the loaders of the tests.
pub mod Endless
