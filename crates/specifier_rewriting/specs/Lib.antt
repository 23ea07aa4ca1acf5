-- ---- what the public contracts rest on
pub use Rattle.specifier_edits.specs.Sites
pub use Rattle.specifier_edits.specs.Edits
pub mod Own
