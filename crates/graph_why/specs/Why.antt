-- Paths of followed edges and redirects between the entries of a graph.
use Rattle.std.specs.Prelude.{◌≡◌, ◌↔◌, ℕ, ◌<◌, ◌≤◌, Bool, true, not, ◌&&◌, ◌==◌, bytes_eq, List, [], ◌∷◌, ◌++◌, length, map, Option, Some, None, option_and_then, slice_get}
use Rattle.std.specs.List.{AllByRecursion, filter_map, flat_map}
use Rattle.graph_entry.specs.declared.entry.Entry.{Entry}
use Rattle.graph_entry.specs.declared.entry.Entry.TheVariants as entry
use Rattle.graph_entry.specs.Specifier.{text_of}
use Rattle.graph_entry.specs.Entry.{edge_target}
use Rattle.graph_builder.specs.declared.following.Following.{Following}
use Rattle.graph_builder.specs.Rules.{Specifier, edges_of, led_to, is_followed, has_types}
use Rattle.graph_builder.specs.Reach.{has}
use Rattle.graph_builder.specs.Graph.{GraphData, texts, entry_of, number_in}
use Rattle.graph_why.specs.declared.step.Step as made
use Rattle.graph_why.specs.declared.step.Without.{Without}
use Rattle.graph_why.specs.declared.step.Without.TheVariants as without

-- a step: from an entry, by its redirect or by its module's dependency with this number, to an entry
pub record Step : Type 0 where
  pub from : Specifier
  pub dependency : Option ℕ
  pub to : Specifier

-- where an entry leads: a redirect to its target, a module by each followed dependency to the dependency's target
abbrev pub leads_to : Following → Entry → Option ℕ → Option Specifier
leads_to f (entry.Redirect t) None = Some (text_of t)
leads_to f (entry.Redirect t) (Some k) = None
leads_to f (entry.Module m) None = None
leads_to f (entry.Module m) (Some k) = option_and_then (led_to (is_followed f (has_types m))) (slice_get (edges_of m) k)
leads_to f (entry.Package p) k = None
leads_to f entry.External k = None
leads_to f (entry.Error e) k = None

-- the specifier has a number, and so an entry (`ModuleGraph::number`)
abbrev pub IsHeld : GraphData → Specifier → Type 0
IsHeld g s = (n : ℕ) × (number_in g.numbered s ≡ Some n)

-- the step is one of the graph's
pub record IsStep (g : GraphData) (f : Following) (s : Step) : Type 0 where
  pub entry : Entry
  pub there : entry_of g.entries s.from ≡ Some entry
  pub leads : leads_to f entry s.dependency ≡ Some s.to
  pub held : IsHeld g s.to

-- where a graph starts: at its roots, and where referrer imports lead
abbrev pub starts : GraphData → List Specifier
starts g = texts g.roots ++ flat_map (λ place. filter_map edge_target place.1) g.imports

-- a start is kept unless its entry is left out
abbrev pub keeps_start : Option Without → Specifier → Bool
keeps_start None s = true
keeps_start (Some (without.Entry url)) s = not (bytes_eq s (text_of url))
keeps_start (Some (without.Edge url k)) s = true

-- the number of a step among those of its entry
abbrev pub number_of_step : Option ℕ → ℕ
number_of_step None = 0
number_of_step (Some k) = k

-- a step is kept unless it is left out or leads to the entry that is
abbrev pub keeps : Option Without → Step → Bool
keeps None s = true
keeps (Some (without.Entry url)) s = not (bytes_eq s.to (text_of url))
keeps (Some (without.Edge url k)) s = not (bytes_eq s.from (text_of url) && number_of_step s.dependency == k)

-- steps that lead from one specifier to another
abbrev pub IsChain : GraphData → Following → Specifier → List Step → Specifier → Type 0
IsChain g f s [] t = s ≡ t
IsChain g f s (e ∷ rest) t = (e.from ≡ s) × IsStep g f e × IsChain g f e.to rest t

-- a path to a specifier's entry: steps from a start on, all of them kept
pub record IsPath (g : GraphData) (f : Following) (w : Option Without) (path : List Step) (s : Specifier) : Type 0 where
  pub start : Specifier
  pub among : has (starts g) start ≡ true
  pub held : IsHeld g start
  pub begins : keeps_start w start ≡ true
  pub chain : IsChain g f start path s
  pub kept : AllByRecursion (λ e. keeps w e ≡ true) path

-- a path to the specifier's entry, and none is shorter
pub record IsShortest (g : GraphData) (f : Following) (path : List Step) (s : Specifier) : Type 0 where
  pub is : IsPath g f None path s
  pub least : (other : List Step) → IsPath g f None other s → length path ≤ length other

-- a step as it is handed out, by its texts
abbrev pub step_of : made.Step → Step
step_of e = record { from = text_of e.from; dependency = e.dependency; to = text_of e.to }

-- why the specifier has an entry: a shortest path to it, or that there is no path
abbrev pub IsWhy : GraphData → Following → Specifier → Option (List made.Step) → Type 0
IsWhy g f s (Some path) = IsShortest g f (map step_of path) s
IsWhy g f s None = (path : List Step) → IsPath g f None path s → ⊥

-- some path leads to the specifier's entry
pub record IsReached (g : GraphData) (f : Following) (w : Option Without) (s : Specifier) : Type 0 where
  pub path : List Step
  pub is : IsPath g f w path s

-- an entry that is reached, and isn't with that left out
pub record IsGone (g : GraphData) (f : Following) (w : Without) (s : Specifier) : Type 0 where
  pub reached : IsReached g f None s
  pub gone : IsReached g f (Some w) s → ⊥

-- the numbers of these specifiers ascend
abbrev pub AreInOrder : GraphData → List Specifier → Type 0
AreInOrder g [] = Unit {0}
AreInOrder g (s ∷ rest) =
    ((t : Specifier) (n k : ℕ) → has rest t ≡ true → number_in g.numbered s ≡ Some n → number_in g.numbered t ≡ Some k
    → n < k)
    × AreInOrder g rest

-- exactly those, by their numbers
pub record AreGone (g : GraphData) (f : Following) (w : Without) (list : List Specifier) : Type 0 where
  pub ascending : AreInOrder g list
  pub each : (s : Specifier) → (has list s ≡ true) ↔ IsGone g f w s
