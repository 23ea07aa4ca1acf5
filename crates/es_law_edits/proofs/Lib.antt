pub mod moved
pub mod moved_lowering
pub mod tokens
pub mod sites
pub mod trees
