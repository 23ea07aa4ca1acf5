-- chains, `new`, `super`, `import`
pub mod Call
-- further parts of chains
pub mod Post
-- arguments
pub mod Args
