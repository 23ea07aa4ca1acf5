-- What the files of a plan answer, and the graph that they make: the old one, renamed (this project's profile).
use Rattle.std.specs.Prelude.{◌≡◌, false, List, [], ◌∷◌, map, Option, Some, None, option_map, option_and_then, if◌then◌else◌}
use Rattle.std.specs.Option.{option_or}
use Rattle.url.specs.Parts.{Parts}
use Rattle.source_text.specs.declared.text_changes.change.TextChange.{TextChange}
use Rattle.source_text.specs.text_changes.Changes.{changed}
use Rattle.es_law_edits.specs.tokens.Moved.{moved, range_to}
use Rattle.graph_entry.specs.declared.answer.LoadAnswer.{LoadAnswer}
use Rattle.graph_entry.specs.declared.answer.LoadAnswer.TheVariants.{Content, External}
use Rattle.graph_entry.specs.declared.entry.Dependency.{Dependency}
use Rattle.graph_entry.specs.declared.entry.JsModule.{JsModule}
use Rattle.graph_entry.specs.declared.entry.Module.TheVariants.{Js}
use Rattle.graph_entry.specs.declared.entry.Entry.{Entry}
use Rattle.graph_entry.specs.declared.entry.Entry.TheVariants as entry
use Rattle.graph_entry.specs.Entry.{edge_target}
use Rattle.graph_builder.specs.Reach.{Specifier, Answers, has}
use Rattle.graph_builder.specs.ByText.{value_at}
use Rattle.graph_builder.specs.Final.{is_redirect}
use Rattle.graph_builder.specs.Graph.{texts, entry_of}
use Rattle.vendor_files.specs.declared.file.VendorFile.{VendorFile}
use Rattle.graph_vendor.specs.declared.plan.VendorPlan.{VendorPlan}
use Rattle.graph_vendor.specs.Names.{Entries, Names, renamed}
use Rattle.graph_vendor.specs.Plan.{edit_of, literal_to}

-- ---- the answers of a plan

-- content without headers
abbrev pub content_of : VendorFile → Parts × LoadAnswer
content_of file = (file.target, Content [] file.bytes)

abbrev pub external_at : List Parts → Specifier → Option LoadAnswer
external_at urls s = if has (texts urls) s then Some External else None

-- a file at its new name; elsewhere that what the plan leaves outside is no part of the sources, and nothing else
abbrev pub vendored_answers : VendorPlan → Answers
vendored_answers plan s = option_or (value_at (map content_of plan.files) s) (external_at plan.externals s)

-- ---- what becomes of an entry

-- the literals of a source give way to the new ones
abbrev pub new_literals : Entries → Names → JsModule → List TextChange
new_literals entries names m = map (edit_of entries names) m.dependencies

-- an edge has its new literal, where that one stands, and leads to the new name of what it led to
pub record EdgeMoves (entries : Entries) (names : Names) (changes : List TextChange) (old new : Dependency)
    : Type 0 where
  pub kind : new.kind ≡ old.kind
  pub type_only : new.type_only ≡ old.type_only
  pub range : new.range ≡ option_map (range_to (moved changes)) old.range
  pub text : new.text ≡ literal_to entries names old.resolution
  pub attribute : new.attribute ≡ old.attribute
  pub target : edge_target new ≡ option_and_then (renamed entries names) (edge_target old)

-- they are as many, and each does so
abbrev pub EdgesMove : Entries → Names → List TextChange → List Dependency → List Dependency → Type 0
EdgesMove entries names changes [] [] = Unit {0}
EdgesMove entries names changes (d ∷ ds) (e ∷ es) =
    EdgeMoves entries names changes d e × EdgesMove entries names changes ds es
EdgesMove entries names changes _ _ = ⊥

-- a source has its new literals, and is what it was in all else
pub record SourceMoves (entries : Entries) (names : Names) (old new : JsModule) : Type 0 where
  pub media_type : new.media_type ≡ old.media_type
  pub text : new.text ≡ changed old.text 0 (new_literals entries names old)
  pub edges : EdgesMove entries names (new_literals entries names old) old.dependencies new.dependencies

-- so has the entry of a source; every other one stays as it is
abbrev pub EntryMoves : Entries → Names → Entry → Entry → Type 0
EntryMoves entries names (entry.Module (Js m)) made =
    (new : JsModule) × SourceMoves entries names m new × (made ≡ entry.Module (Js new))
EntryMoves entries names old made = made ≡ old

-- ---- the new graph

-- an entry of the old graph that is no redirect has moved to its new name
pub record Stands (entries : Entries) (names : Names) (s : Specifier) (old : Entry) (t : Specifier) (made : Entry)
    : Type 0 where
  pub here : entry_of entries s ≡ Some old
  pub stays : is_redirect old ≡ false
  pub named : renamed entries names s ≡ Some t
  pub moves : EntryMoves entries names old made

-- the new graph is the old one without its redirects, renamed
pub record IsVendored (entries : Entries) (names : Names) (news : Entries) : Type 0 where
  -- each entry stands there
  pub each : (s : Specifier) (old : Entry) → entry_of entries s ≡ Some old → is_redirect old ≡ false
      → (t : Specifier) × (made : Entry) × (entry_of news t ≡ Some made) × Stands entries names s old t made
  -- and nothing else
  pub only : (t : Specifier) (made : Entry) → entry_of news t ≡ Some made
      → (s : Specifier) × (old : Entry) × Stands entries names s old t made
  -- no two have one new name
  pub apart : (r s : Specifier) (d e : Entry) → entry_of entries r ≡ Some d → is_redirect d ≡ false
      → entry_of entries s ≡ Some e → is_redirect e ≡ false
      → renamed entries names r ≡ renamed entries names s → r ≡ s
