pub mod mime_essence
-- ---- what the public contracts rest on
pub mod MediaType
pub mod Endings
pub mod ContentTypes
pub mod Specifiers
-- ---- what the functions inside the crate promise each other
pub mod Steps
