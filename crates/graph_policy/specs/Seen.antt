-- What a rule sees of a module and of an edge, as texts.
use Rattle.std.specs.Prelude.{ℕ, Bool, List, map, Option, option_map}
use Rattle.std.proofs.Common.{◌⊎◌, inl, inr}
use Rattle.std.specs.Option.{option_copied}
use Rattle.graph_policy.specs.declared.seen.SeenModule.{SeenModule}
use Rattle.graph_policy.specs.declared.seen.SeenEdge.{SeenEdge}
use Rattle.graph_policy.specs.declared.seen.SeenEntry.{SeenEntry}
use Rattle.graph_policy.specs.declared.seen.Seen.{Seen}
use Rattle.graph_policy.specs.declared.seen.Seen.TheVariants as seen

-- a module: its specifier, its scheme without `:`, its host without a port, and its package's name
pub record ModuleTexts : Type 0 where
  pub specifier : List ℕ
  pub scheme : List ℕ
  pub host : Option (List ℕ)
  pub package_name : Option (List ℕ)

-- an edge: its module, its target, its specifier as the module has it, the word for its kind
pub record EdgeTexts : Type 0 where
  pub from : ModuleTexts
  pub to : Option ModuleTexts
  pub text : List ℕ
  pub kind : List ℕ
  pub type_only : Bool
  pub dynamic : Bool

-- an entry: what is seen of its specifier, and its edges if it is a module
pub record EntryTexts : Type 0 where
  pub own : ModuleTexts
  pub edges : Option (List EdgeTexts)

abbrev pub module_texts : SeenModule → ModuleTexts
module_texts m = record {
  specifier = m.specifier.now;
  scheme = m.scheme.now;
  host = option_copied m.host;
  package_name = option_copied m.package_name;
}

abbrev pub edge_texts : SeenEdge → EdgeTexts
edge_texts e = record {
  from = module_texts e.from;
  to = option_map module_texts e.to;
  text = e.text.now;
  kind = e.kind.now;
  type_only = e.type_only;
  dynamic = e.dynamic;
}

abbrev pub entry_texts : SeenEntry → EntryTexts
entry_texts e = record { own = module_texts e.own; edges = option_map (map edge_texts) (option_copied e.edges) }

abbrev pub seen_texts : Seen → (EntryTexts ⊎ EdgeTexts)
seen_texts (seen.Entry e) = inl (entry_texts e)
seen_texts (seen.Edge e) = inr (edge_texts e)
