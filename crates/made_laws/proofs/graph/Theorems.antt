-- The laws that other crates name.
pub use Rattle.made_laws.proofs.graph.Said.{made_json, made_says}
pub use Rattle.made_laws.proofs.graph.Reached.{specifiers_counted, reached_listed}
