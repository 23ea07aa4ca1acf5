pub mod records
-- ---- what the public contracts rest on
pub use Rattle.source_text.specs.text_changes.Changes
pub use Rattle.es_law_edits.specs.tokens.Moved
pub mod Sites
pub mod Edits
pub mod Faults
