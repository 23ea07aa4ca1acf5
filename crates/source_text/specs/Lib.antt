pub mod module_text
pub mod text_changes
-- ---- what the public contracts rest on
pub mod Lines
-- ---- what the functions inside the crate promise each other
pub mod Table
