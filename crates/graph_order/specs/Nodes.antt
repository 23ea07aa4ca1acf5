-- What the crate's functions promise each other: the numbers of modules at the numbers that the graph gave to specifiers.
use Rattle.std.specs.Prelude.{◌≡◌, ◌<◌, ℕ, List, length, Option, Some, None, option_and_then, slice_index_or}
use Rattle.graph_builder.specs.Rules.{Specifier}
use Rattle.graph_builder.specs.ByText.{number_of}
use Rattle.graph_builder.specs.Graph.{GraphData, number_in}
use Rattle.graph_order.specs.Edges.{Entries, module_there}
use Rattle.graph_order.specs.Names.{Names, named, name_of}

-- the number of the module that a specifier leads to
abbrev pub node_there : Entries → Specifier → Option ℕ
node_there entries s = option_and_then (number_of (named entries)) (module_there entries s)

-- so many, and none is known yet
pub record AreUnknown (count : ℕ) (nodes : List (Option ℕ)) : Type 0 where
  pub len : length nodes ≡ count
  pub none : (n : ℕ) → slice_index_or nodes n None ≡ None

-- at the numbers of the first names, so many of them, stand their places, and elsewhere none
pub record AreNodes (graph : GraphData) (names : Names) (upto : ℕ) (nodes : List (Option ℕ)) : Type 0 where
  pub len : length nodes ≡ length graph.entries
  pub placed : (v n : ℕ) → v < upto → number_in graph.numbered (name_of names v) ≡ Some n
      → slice_index_or nodes n None ≡ Some v
  pub none : (s : Specifier) (n : ℕ) → number_in graph.numbered s ≡ Some n
      → ((v : ℕ) → v < upto → name_of names v ≡ s → ⊥) → slice_index_or nodes n None ≡ None

-- at the number of each specifier of the graph, of so many, stands that of the module that it leads to
abbrev pub EachLed : GraphData → List (Option ℕ) → Type 0
EachLed graph led =
    (s : Specifier) (n : ℕ) → number_in graph.numbered s ≡ Some n → n < length led
    → slice_index_or led n None ≡ node_there graph.entries s

pub record AreLed (graph : GraphData) (led : List (Option ℕ)) : Type 0 where
  pub len : length led ≡ length graph.entries
  pub each : EachLed graph led
