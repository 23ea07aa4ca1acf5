-- How the first entries of all that is reached become those of the graph.
use Rattle.std.specs.Prelude.{◌≡◌, ℕ, length, zero, suc, Bool, true, false, not, ◌&&◌, List, map, Option, Some, None, is_some, is_none, option_and_then, Ok, Err, if◌then◌else◌}
use Rattle.std.specs.List.{zip, list_all}
use Rattle.url.specs.Parts.{Parts}
use Rattle.es_site.specs.declared.site.Attribute.{Attribute}
use Rattle.es_site.specs.declared.site.Attribute.TheVariants.{Absent, Named, Unknown}
use Rattle.graph_entry.specs.Specifier.{text_of}
use Rattle.graph_entry.specs.Resolution.{Resolved}
use Rattle.graph_entry.specs.declared.entry.Dependency.{Dependency}
use Rattle.graph_entry.specs.declared.entry.Module.{Module}
use Rattle.graph_entry.specs.declared.entry.Module.TheVariants.{Js, Json, Wasm}
use Rattle.graph_entry.specs.declared.entry.Entry.{Entry}
use Rattle.graph_entry.specs.declared.entry.Entry.TheVariants as entry
use Rattle.graph_entry.specs.declared.entry.ModuleError.TheVariants.{TooManyRedirects}
use Rattle.graph_entry.specs.declared.resolution.ResolutionError.TheVariants.{InvalidTypeAssertion, InvalidSourcePhase}
use Rattle.graph_builder.specs.declared.slot.Slot.{Slot}
use Rattle.graph_builder.specs.declared.settle.Unfit.{Unfit}
use Rattle.graph_builder.specs.declared.settle.Unfit.TheVariants.{ForAttribute, ForPhase}
use Rattle.graph_builder.specs.declared.settle.Verdict.{Verdict}
use Rattle.graph_builder.specs.declared.settle.Verdict.TheVariants.{Kept, TooFar, Judged}
use Rattle.graph_builder.specs.declared.following.Following.{Following}
use Rattle.graph_builder.specs.Rules.{edges_of, is_source, is_followed}
use Rattle.graph_builder.specs.Reach.{Specifier, Rules}
use Rattle.graph_builder.specs.Graph.{GraphData, texts, entry_of, redirected, module_at, IsAscending}
use Rattle.graph_builder.specs.ByText.{keys_at}
use Rattle.graph_builder.specs.Final.{most_redirects, fits_by, fits_phase, refused_edge, with_edges}
use Rattle.graph_builder.specs.Inside.{all_done}

-- ---- redirects

-- where so many steps lead, if there are so many
abbrev pub led : (Specifier → Option Specifier) → ℕ → Specifier → Option Specifier
led next zero s = Some s
led next (suc n) s = option_and_then (led next n) (next s)

-- from here as many redirects lead on as are followed
abbrev pub leads_on : List (Parts × Entry) → Specifier → Bool
leads_on firsts s = is_some (led (redirected firsts) most_redirects s)

-- ---- edges

-- what an edge is refused for by the module that it leads to, if there is one: first its attribute, where one without may
-- be of JSON or may not, then its phase
abbrev pub unfit : Bool → Dependency → Option Module → Option Unfit
unfit json_without_attribute d None = None
unfit json_without_attribute d (Some m) =
    if not (fits_by json_without_attribute d.attribute m) then Some ForAttribute
    else if not (fits_phase d.kind m) then Some ForPhase
    else None

-- the same of the module at the edge's end
abbrev pub unfit_at : Bool → List (Parts × Entry) → Dependency → Resolved → Option Unfit
unfit_at json_without_attribute firsts d (Ok target) =
    unfit json_without_attribute d (module_at firsts (text_of target))
unfit_at json_without_attribute firsts d (Err e) = None

-- what an edge of a module is refused for, where it is followed
abbrev pub misfit : Rules → List (Parts × Entry) → Module → Dependency → Option Unfit
misfit rules firsts m d =
    if rules.follows m d then unfit_at rules.json_without_attribute firsts d d.resolution else None

-- the same of an edge of a module with types, or without, by the rules of this crate
abbrev pub misfit_here : Following → Bool → List (Parts × Entry) → Dependency → Option Unfit
misfit_here following typed firsts d =
    if is_followed following typed d then unfit_at following.json_without_attribute firsts d d.resolution else None

-- ---- entries that nothing is to be judged of

-- an attribute names something
abbrev pub is_named : Attribute → Bool
is_named Absent = false
is_named (Named text) = true
is_named Unknown = false

-- an edge asks a module for nothing: its attribute names nothing, and it takes no source
abbrev pub asks_nothing : Dependency → Bool
asks_nothing d = not (is_named d.attribute) && not (is_source d.kind)

-- all edges are so
abbrev pub ask_nothing : List Dependency → Bool
ask_nothing edges = list_all asks_nothing edges

-- the entry doesn't redirect and isn't JSON, and its edges ask for nothing
abbrev pub is_plain : Entry → Bool
is_plain (entry.Redirect target) = false
is_plain (entry.Module (Js m)) = ask_nothing m.dependencies
is_plain (entry.Module (Json m)) = false
is_plain (entry.Module (Wasm m)) = ask_nothing m.dependencies
is_plain (entry.Package held) = true
is_plain entry.External = true
is_plain (entry.Error e) = true

-- all of a list are so
abbrev pub all_plain : List Entry → Bool
all_plain firsts = list_all is_plain firsts

-- all entries are so
abbrev pub are_plain : List (Parts × Entry) → Bool
are_plain firsts = list_all (λ e. is_plain e.1) firsts

-- ---- what becomes of an entry

-- the entries without their specifiers
abbrev pub values_of : List (Parts × Entry) → List Entry
values_of firsts = map (λ e. e.1) firsts

-- no edge is refused
abbrev pub none_refused : List (Option Unfit) → Bool
none_refused refused = list_all is_none refused

-- what is to become of a module, by what its edges are refused for
abbrev pub judgement : List (Option Unfit) → Verdict
judgement refused = if none_refused refused then Kept else Judged refused

-- the entry stays
abbrev pub is_kept : Verdict → Bool
is_kept Kept = true
is_kept TooFar = false
is_kept (Judged refused) = false

-- all entries stay
abbrev pub all_kept : List Verdict → Bool
all_kept verdicts = list_all is_kept verdicts

-- what is to become of it
abbrev pub verdict_of : Rules → List (Parts × Entry) → Entry → Verdict
verdict_of rules firsts (entry.Redirect target) = if leads_on firsts (text_of target) then TooFar else Kept
verdict_of rules firsts (entry.Module m) = judgement (map (misfit rules firsts m) (edges_of m))
verdict_of rules firsts (entry.Package held) = Kept
verdict_of rules firsts entry.External = Kept
verdict_of rules firsts (entry.Error e) = Kept

-- an edge that is refused, or isn't
abbrev pub settled_edge : Option Unfit → Dependency → Dependency
settled_edge None d = d
settled_edge (Some ForAttribute) d = refused_edge InvalidTypeAssertion d
settled_edge (Some ForPhase) d = refused_edge InvalidSourcePhase d

-- the edges, each refused where its place says so
abbrev pub judged_edges : List (Option Unfit) → List Dependency → List Dependency
judged_edges refused edges = map (λ p. settled_edge p.0 p.1) (zip refused edges)

-- the entry by its verdict
abbrev pub judged : Verdict → Entry → Entry
judged Kept first = first
judged TooFar (entry.Redirect target) = entry.Error (TooManyRedirects target)
judged TooFar (entry.Module m) = entry.Module m
judged TooFar (entry.Package held) = entry.Package held
judged TooFar entry.External = entry.External
judged TooFar (entry.Error e) = entry.Error e
judged (Judged refused) (entry.Module m) = entry.Module (with_edges m (judged_edges refused (edges_of m)))
judged (Judged refused) (entry.Redirect target) = entry.Redirect target
judged (Judged refused) (entry.Package held) = entry.Package held
judged (Judged refused) entry.External = entry.External
judged (Judged refused) (entry.Error e) = entry.Error e

-- the entries by their verdicts
abbrev pub all_judged : List Verdict → List Entry → List Entry
all_judged verdicts firsts = map (λ p. judged p.0 p.1) (zip verdicts firsts)

-- a verdict on a module has a place for each of its edges
abbrev pub IsVerdictOn : Verdict → Entry → Type 0
IsVerdictOn (Judged refused) (entry.Module m) = length refused ≡ length (edges_of m)
IsVerdictOn verdict first = Unit {0}

-- what a first entry becomes
abbrev pub settled : Rules → List (Parts × Entry) → Entry → Entry
settled rules firsts (entry.Redirect target) =
    if leads_on firsts (text_of target) then entry.Error (TooManyRedirects target) else entry.Redirect target
settled rules firsts (entry.Module m) =
    entry.Module (with_edges m (map (λ d. settled_edge (misfit rules firsts m d) d) (edges_of m)))
settled rules firsts (entry.Package held) = entry.Package held
settled rules firsts entry.External = entry.External
settled rules firsts (entry.Error e) = entry.Error e

-- the entries of the graph
abbrev pub finals_of : Rules → List (Parts × Entry) → List (Parts × Entry)
finals_of rules firsts = map (λ e. (e.0, settled rules firsts e.1)) firsts

-- the slots all have a first entry; the graph's entries are what these become, in the order of bytes, and their numbers stay
pub record AreSettled (rules : Rules) (slots : List (Parts × Slot)) (graph : GraphData) : Type 0 where
  pub firsts : List (Parts × Entry)
  pub done : slots ≡ all_done firsts
  pub ascending : IsAscending graph.entries
  pub is : (t : Specifier) → entry_of graph.entries t ≡ entry_of (finals_of rules firsts) t
  pub counted : length graph.entries ≡ length firsts
  pub numbered : texts graph.numbered ≡ keys_at slots
