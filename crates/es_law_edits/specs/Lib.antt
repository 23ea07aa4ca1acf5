pub mod moved
pub mod tokens
pub mod sites
pub mod trees
