-- keys of types, and names with dots
pub mod Keys
