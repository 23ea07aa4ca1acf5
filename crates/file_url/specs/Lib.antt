pub mod canonical_url
-- ---- what the public contracts rest on
pub mod Expected
pub mod Imports
pub mod FileUrls
pub mod WindowsPaths
pub mod ToPath
