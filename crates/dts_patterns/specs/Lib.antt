-- patterns as patterns in types
pub mod Patterns
