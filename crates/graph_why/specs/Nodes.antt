-- What the crate's functions promise each other: numbers for entries, links for steps.
use Rattle.std.specs.Prelude.{◌≡◌, ℕ, ◌<◌, List, [], ◌∷◌, ◌++◌, length, map, Option, Some, None, cond, nat_lt, slice_index_or}
use Rattle.url.specs.Parts.{Parts}
use Rattle.graph_entry.specs.declared.entry.Entry.{Entry}
use Rattle.graph_entry.specs.declared.entry.Entry.TheVariants as entry
use Rattle.graph_entry.specs.Specifier.{text_of}
use Rattle.graph_builder.specs.declared.following.Following.{Following}
use Rattle.graph_builder.specs.Rules.{Specifier, edges_of, led_to, is_followed, has_types}
use Rattle.graph_builder.specs.Graph.{GraphData, texts, entry_of, number_in}
use Rattle.topological_order.specs.Order.{Links, Link, IsLink, target}
use Rattle.shortest_paths.specs.declared.without.Without as sp
use Rattle.shortest_paths.specs.declared.without.Without.TheVariants as sv
use Rattle.graph_why.specs.declared.step.Without.{Without}
use Rattle.graph_why.specs.declared.step.Without.TheVariants as without
use Rattle.graph_why.specs.Why.{Step, starts}

-- a number, or the sink's
abbrev pub or_sink : ℕ → Option ℕ → ℕ
or_sink sink None = sink
or_sink sink (Some n) = n

-- the number of a specifier's entry, if it has one
abbrev pub node_of : List Parts → ℕ → Specifier → ℕ
node_of numbered sink s = or_sink sink (number_in numbered s)

-- that of where something leads
abbrev pub node_there : List Parts → ℕ → Option Specifier → ℕ
node_there numbered sink None = sink
node_there numbered sink (Some s) = node_of numbered sink s

-- the links of an entry
abbrev pub row_of : List Parts → ℕ → Following → Option Entry → List ℕ
row_of numbered sink f (Some (entry.Redirect t)) = node_of numbered sink (text_of t) ∷ []
row_of numbered sink f (Some (entry.Module m)) =
    map (λ d. node_there numbered sink (led_to (is_followed f (has_types m)) d)) (edges_of m)
row_of numbered sink f (Some (entry.Package p)) = []
row_of numbered sink f (Some entry.External) = []
row_of numbered sink f (Some (entry.Error e)) = []
row_of numbered sink f None = []

-- those of each entry by its number, and none of the sink
abbrev pub rows : GraphData → Following → List (List ℕ)
rows g f =
    map (λ url. row_of g.numbered (length g.numbered) f (entry_of g.entries (text_of url))) g.numbered ++ [] ∷ []

-- the numbers of the starts
abbrev pub start_nodes : GraphData → List ℕ
start_nodes g = map (node_of g.numbered (length g.numbered)) (starts g)

-- the step of an entry that is its link at a place
abbrev pub dependency_at : Option Entry → ℕ → Option ℕ
dependency_at None k = Some k
dependency_at (Some (entry.Redirect t)) k = None
dependency_at (Some (entry.Module m)) k = Some k
dependency_at (Some (entry.Package p)) k = Some k
dependency_at (Some entry.External) k = Some k
dependency_at (Some (entry.Error e)) k = Some k

-- the specifier with a number
abbrev pub name : GraphData → ℕ → Specifier
name g v = slice_index_or (texts g.numbered) v []

-- a link from an entry to another one
pub record IsLow (links : Links) (sink : ℕ) (e : Link) : Type 0 where
  pub node : e.0 < sink
  pub within : e.0 < length links
  pub link : IsLink links e
  pub to : target links e < sink

-- the step that a link stands for
abbrev pub step_at : GraphData → Links → Link → Step
step_at g links e = record {
  from = name g e.0;
  dependency = dependency_at (entry_of g.entries (name g e.0)) e.1;
  to = name g (target links e);
}

-- the specifiers with these numbers, but for the sink's
abbrev pub names_below : GraphData → List ℕ → List Specifier
names_below g [] = []
names_below g (v ∷ rest) =
    cond (nat_lt v (length g.numbered)) (name g v ∷ names_below g rest) (names_below g rest)

-- the same is left out, by numbers
abbrev pub IsLeft : GraphData → Option Without → sp.Without → Type 0
IsLeft g None sv.Nothing = Unit {0}
IsLeft g None (sv.Node x) = ⊥
IsLeft g None (sv.Link x k) = ⊥
IsLeft g (Some (without.Entry url)) sv.Nothing = ⊥
IsLeft g (Some (without.Entry url)) (sv.Node x) = number_in g.numbered (text_of url) ≡ Some x
IsLeft g (Some (without.Entry url)) (sv.Link x k) = ⊥
IsLeft g (Some (without.Edge url j)) sv.Nothing = ⊥
IsLeft g (Some (without.Edge url j)) (sv.Node x) = ⊥
IsLeft g (Some (without.Edge url j)) (sv.Link x k) = (number_in g.numbered (text_of url) ≡ Some x) × (k ≡ j)

-- the entry that is left out, or has the edge that is, isn't there
abbrev pub IsAbsent : GraphData → Without → Type 0
IsAbsent g (without.Entry url) = number_in g.numbered (text_of url) ≡ None
IsAbsent g (without.Edge url j) = number_in g.numbered (text_of url) ≡ None
