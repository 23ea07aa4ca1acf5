-- The rules of a graph: what an answer means, and which edges are followed.
use Rattle.std.specs.Prelude.{ℕ, Bool, true, false, not, ◌&&◌, List, [], ◌∷◌, Option, None, if◌then◌else◌}
use Rattle.std.specs.List.{filter_map}
use Rattle.es_site.specs.declared.site.DependencyKind.{DependencyKind}
use Rattle.es_site.specs.declared.site.DependencyKind.TheVariants.{ImportSource, Dynamic, DynamicSource, DynamicDefer, Require, RequireResolve, Worker, Address}
use Rattle.media_type.specs.MediaType.{is_typed}
use Rattle.graph_entry.specs.declared.answer.LoadAnswer.{LoadAnswer}
use Rattle.graph_entry.specs.declared.entry.Dependency.{Dependency}
use Rattle.graph_entry.specs.declared.entry.Module.{Module}
use Rattle.graph_entry.specs.declared.entry.Module.TheVariants.{Js, Json, Wasm}
use Rattle.graph_entry.specs.declared.entry.Entry.{Entry}
use Rattle.graph_entry.specs.declared.entry.Entry.TheVariants as entry
use Rattle.graph_entry.specs.declared.kind.GraphKind.{GraphKind}
use Rattle.graph_entry.specs.declared.kind.GraphKind.TheVariants.{All, CodeOnly, TypesOnly}
use Rattle.graph_entry.specs.Specifier.{text_of}
use Rattle.graph_entry.specs.Entry.{edge_target}
use Rattle.graph_entry.specs.Analysed.{Analysed}
use Rattle.graph_builder.specs.declared.following.Following.{Following}

-- a specifier's text
abbrev pub Specifier : Type 0
Specifier = List ℕ

-- What the theory of a graph is over: which entries an answer for a specifier can have, `None` being where no loader is asked
-- for it; whether an edge of a module is followed; and whether one without an attribute may be of JSON.
pub record Rules : Type 1 where
  pub means : Specifier → Option LoadAnswer → Entry → Type 0
  pub follows : Module → Dependency → Bool
  pub json_without_attribute : Bool

-- the edges of a module
abbrev pub edges_of : Module → List Dependency
edges_of (Js m) = m.dependencies
edges_of (Json m) = []
edges_of (Wasm m) = m.dependencies

-- where an edge leads on to: its target, if it has one and is followed
abbrev pub led_to : (Dependency → Bool) → Dependency → Option Specifier
led_to follows d = if follows d then edge_target d else None

-- the texts that an entry leads to: where it redirects to, or the targets of the followed edges of its module, in order
unfoldable pub targets : Rules → Entry → List Specifier
targets rules (entry.Redirect target) = text_of target ∷ []
targets rules (entry.Module m) = filter_map (led_to (rules.follows m)) (edges_of m)
targets rules (entry.Package held) = []
targets rules entry.External = []
targets rules (entry.Error e) = []

-- ---- the rules that this crate has

-- a module that is read as TypeScript has types
abbrev pub has_types : Module → Bool
has_types (Js m) = is_typed m.media_type
has_types (Json m) = false
has_types (Wasm m) = false

-- the edge takes the source of a module of WebAssembly
abbrev pub is_source : DependencyKind → Bool
is_source ImportSource = true
is_source DynamicSource = true
is_source _ = false

-- the edge names a place: nothing is read or run by it
abbrev pub is_place : DependencyKind → Bool
is_place RequireResolve = true
is_place Address = true
is_place _ = false

-- the edge leads to no types: it takes a source, names a place, is a call of `require`, or starts a worker
abbrev pub is_untyped : DependencyKind → Bool
is_untyped ImportSource = true
is_untyped DynamicSource = true
is_untyped Require = true
is_untyped RequireResolve = true
is_untyped Worker = true
is_untyped Address = true
is_untyped _ = false

-- a graph of this kind follows an edge: every one, or those that a running program takes, but for those that name a
-- place; or those of modules with types, but for those that lead to no types
abbrev pub of_kind : GraphKind → Bool → Dependency → Bool
of_kind All typed d = not (is_place d.kind)
of_kind CodeOnly typed d = not d.type_only && not (is_place d.kind)
of_kind TypesOnly typed d = typed && not (is_untyped d.kind)

-- the edge is an `import()`, in any phase, or starts a worker
abbrev pub is_dynamic : DependencyKind → Bool
is_dynamic Dynamic = true
is_dynamic DynamicSource = true
is_dynamic DynamicDefer = true
is_dynamic Worker = true
is_dynamic _ = false

-- an edge of a module with types, or without, is followed (this project's profile)
abbrev pub is_followed : Following → Bool → Dependency → Bool
is_followed following typed d =
    of_kind following.kind typed d && not (following.skip_dynamic_deps && is_dynamic d.kind)

-- which entries an answer for a specifier can have
abbrev pub Means : Type 1
Means = Specifier → Option LoadAnswer → Entry → Type 0

-- the answers mean this
abbrev pub rules_by : Means → Following → Rules
rules_by means following = record {
  means = means;
  follows = λ m. is_followed following (has_types m);
  json_without_attribute = following.json_without_attribute;
}

-- the answers mean what the analysis says
abbrev pub rules_of : Following → Rules
rules_of following = rules_by Analysed following
