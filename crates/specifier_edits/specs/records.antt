-- ---- what the public contracts rest on
pub use Rattle.specifier_edits.specs.Edits
pub use Rattle.specifier_edits.specs.Faults
pub use Rattle.specifier_edits.specs.Sites
pub mod Records
