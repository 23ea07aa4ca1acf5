-- The laws that other crates name.
pub use Rattle.made_laws.proofs.Lengths.{made_length}
pub use Rattle.made_laws.proofs.Texts.{made_utf8, module_ascii}
pub use Rattle.made_laws.proofs.Read.{made_read}
pub use Rattle.made_laws.proofs.Urls.{serialize_at, specifier_read}
pub use Rattle.made_laws.proofs.Joined.{import_text, import_read}
pub use Rattle.made_laws.proofs.Unread.{import_unread}
pub use Rattle.made_laws.proofs.Apart.{specifier_injective, first_specifier}
pub use Rattle.made_laws.proofs.Bytes.{IsClean, clean_module}
pub use Rattle.made_laws.proofs.Lines.{Imports}
pub use Rattle.made_laws.proofs.Slices.{no_comments, literal_of}
pub use Rattle.made_laws.proofs.Values.{import_value}
