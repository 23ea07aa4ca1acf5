-- What the crate's functions promise each other: the numbers of modules, and the links between them.
use Rattle.std.specs.Prelude.{◌≡◌, ℕ, zero, suc, true, List, [], ◌∷◌, map, Option, Some, None, option_map, option_and_then, slice_get, slice_index, slice_index_or}
use Rattle.std.specs.List.{filter_map, AllByRecursion}
use Rattle.std.specs.Borrow.{Bor}
use Rattle.url.specs.Parts.{Parts}
use Rattle.graph_entry.specs.declared.entry.Dependency.{Dependency}
use Rattle.graph_entry.specs.declared.entry.Module.{Module}
use Rattle.graph_entry.specs.declared.entry.Entry.{Entry}
use Rattle.graph_entry.specs.Specifier.{text_of}
use Rattle.graph_builder.specs.Rules.{Specifier, edges_of}
use Rattle.graph_builder.specs.Reach.{has}
use Rattle.graph_builder.specs.Graph.{texts, entry_of, module_of}
use Rattle.graph_builder.specs.ByText.{keys_at, number_of}
use Rattle.graph_order.specs.declared.found.Order.{Order}
use Rattle.graph_order.specs.declared.found.Order.TheVariants.{Sorted, Cycle}
use Rattle.graph_order.specs.Edges.{Entries, Edge, IsStaticEdge, static_target}
use Rattle.graph_order.specs.Order.{edge_of}

-- ---- numbers

-- specifiers with numbers
abbrev pub Names : Type 0
Names = List (Parts × Unit {0})

-- a module with its specifier
abbrev pub Held : Type 0
Held = Parts × Module

-- the module of an entry, with its specifier
abbrev pub held : Parts × Entry → Option Held
held e = option_map (λ m. (e.0, m)) (module_of e.1)

-- the modules among entries
abbrev pub modules_of : Entries → List Held
modules_of entries = filter_map held entries

-- a module's specifier
abbrev pub bare : Held → Parts × Unit {0}
bare m = (m.0, tt)

-- their specifiers, whose numbers are their places
abbrev pub named : Entries → Names
named entries = map bare (modules_of entries)

-- specifiers behind references
abbrev pub named_at : List (Bor Parts) → Names
named_at urls = map (λ url. (url.now, tt)) urls

-- the number of the module that an edge leads to
abbrev pub sees : Names → Entries → Dependency → Option ℕ
sees names entries d = option_and_then (number_of names) (static_target entries d)

-- the numbers that the static edges of each module lead to
abbrev pub links_of_held : Names → Entries → Held → List ℕ
links_of_held names entries m = filter_map (sees names entries) (edges_of m.1)

abbrev pub links_in : Names → Entries → List (List ℕ)
links_in names entries = map (links_of_held names entries) (modules_of entries)

-- a place, from what the first item of a list gives
abbrev pub place_at : {B : Type 0} → Option B → (ℕ → ℕ) → ℕ → ℕ
place_at None later k = suc (later k)
place_at (Some y) later zero = 0
place_at (Some y) later (suc k) = suc (later k)

-- the place of the item of a list that is the one with this number among those that give something
abbrev pub place_of : {A B : Type 0} → (A → Option B) → List A → ℕ → ℕ
place_of f [] k = 0
place_of f (x ∷ xs) k = place_at (f x) (place_of f xs) k

-- the specifier with a number
abbrev pub name_of : Names → ℕ → Specifier
name_of names v = slice_index_or (keys_at names) v []

-- the dependencies of the module with a number
abbrev pub edges_at : Entries → ℕ → List Dependency
edges_at entries v = slice_index_or (map (λ m. edges_of m.1) (modules_of entries)) v []

-- the dependencies of a module, if there is one
abbrev pub module_edges : Option Module → List Dependency
module_edges None = []
module_edges (Some m) = edges_of m

-- those of the module at a specifier
abbrev pub edges_there : Entries → Specifier → List Dependency
edges_there entries s = module_edges (option_and_then module_of (entry_of entries s))

-- the edge that is the link of a module with this number
abbrev pub edge_at : Entries → ℕ × ℕ → Edge
edge_at entries e = record {
  from = name_of (named entries) e.0;
  place = place_of (sees (named entries) entries) (edges_at entries e.0) e.1;
  to = name_of (named entries) (slice_index (slice_index_or (links_in (named entries) entries) e.0 []) e.1);
}

-- ---- what is found

-- the specifiers in this order are answered
abbrev pub IsSorted : List Specifier → Order → Type 0
IsSorted list (Sorted urls) = texts urls ≡ list
IsSorted list (Cycle edges) = ⊥

-- these edges are
abbrev pub IsRound : List Edge → Order → Type 0
IsRound edges (Sorted urls) = ⊥
IsRound edges (Cycle cycle) = map edge_of cycle ≡ edges

-- ---- what is checked

-- an edge leads to one of these specifiers, if it is static and leads to a module
abbrev pub LeadsTo : Entries → List Specifier → Dependency → Type 0
LeadsTo entries placed d = (t : Specifier) → static_target entries d ≡ Some t → has placed t ≡ true

-- the modules among the entries all stand among these
abbrev pub HoldsEach : List Specifier → Entries → Type 0
HoldsEach placed entries = AllByRecursion (λ m. has placed (text_of m.0) ≡ true) (modules_of entries)

-- the edge is a static one of the module at the specifier
abbrev pub GoesOn : Entries → Specifier → Edge → Type 0
GoesOn entries s e = (e.from ≡ s) × IsStaticEdge entries e

-- among a module's dependencies the edge's leads to the edge's target
pub record LeadsSo (entries : Entries) (edges : List Dependency) (e : Edge) : Type 0 where
  pub edge : Dependency
  pub at : slice_get edges e.place ≡ Some edge
  pub leads : static_target entries edge ≡ Some e.to
