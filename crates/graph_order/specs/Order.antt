-- Orders of a graph's modules, and cycles of its static edges.
use Rattle.std.specs.Prelude.{◌≡◌, ◌<◌, true, false, List, [], ◌∷◌, ◌++◌, map}
use Rattle.std.specs.List.{AllByRecursion}
use Rattle.std.specs.Ordering.{nat_cmp, is_le}
use Rattle.std.specs.Cmp.Lexicographic.{slice_cmp}
use Rattle.graph_entry.specs.Specifier.{text_of}
use Rattle.graph_builder.specs.Rules.{Specifier}
use Rattle.graph_builder.specs.Reach.{has}
use Rattle.graph_builder.specs.Graph.{texts}
use Rattle.graph_order.specs.declared.found.Order.{Order}
use Rattle.graph_order.specs.declared.found.Order.TheVariants.{Sorted, Cycle}
use Rattle.graph_order.specs.declared.found.CycleEdge.{CycleEdge}
use Rattle.graph_order.specs.Edges.{Entries, IsModule, Edge, IsStaticEdge}

-- ---- orders

-- behind these modules the one at the specifier may stand: it isn't among them, and all its static edges lead to them
pub record IsFree (entries : Entries) (front : List Specifier) (s : Specifier) : Type 0 where
  pub there : IsModule entries s
  pub open_yet : has front s ≡ false
  pub placed : (e : Edge) → IsStaticEdge entries e → e.from ≡ s → has front e.to ≡ true

-- by bytes it doesn't come behind the other
abbrev pub IsUpTo : Specifier → Specifier → Type 0
IsUpTo s t = is_le (slice_cmp nat_cmp s t) ≡ true

-- and it is the least by bytes that may
pub record IsLeastFree (entries : Entries) (front : List Specifier) (s : Specifier) : Type 0 where
  pub free : IsFree entries front s
  pub least : (t : Specifier) → IsFree entries front t → IsUpTo s t

-- each item stands so behind those before it, the first ones being these
abbrev pub EachBehind : (List Specifier → Specifier → Type 0) → List Specifier → List Specifier → Type 0
EachBehind Stands front [] = Unit {0}
EachBehind Stands front (s ∷ rest) = Stands front s × EachBehind Stands (front ++ s ∷ []) rest

-- an order: all modules' specifiers, each once, where each static edge leads to one before its module's
pub record IsOrder (entries : Entries) (list : List Specifier) : Type 0 where
  pub all : (s : Specifier) → IsModule entries s → has list s ≡ true
  pub each : EachBehind (IsFree entries) [] list

-- the least one: at each place the least that may stand there
pub record IsLeastOrder (entries : Entries) (list : List Specifier) : Type 0 where
  pub order : IsOrder entries list
  pub least : EachBehind (IsLeastFree entries) [] list

-- ---- cycles

-- static edges that lead from one specifier to another, one behind the other
abbrev pub IsChain : Entries → Specifier → List Edge → Specifier → Type 0
IsChain entries s [] t = s ≡ t
IsChain entries s (e ∷ rest) t = (e.from ≡ s) × IsStaticEdge entries e × IsChain entries e.to rest t

-- the specifiers of the modules that have the edges
abbrev pub modules : List Edge → List Specifier
modules edges = map (λ e. e.from) edges

-- no specifier comes twice
abbrev pub AreApart : List Specifier → Type 0
AreApart [] = Unit {0}
AreApart (s ∷ rest) = (has rest s ≡ false) × AreApart rest

-- the first one
abbrev pub head_of : List Edge → Specifier
head_of [] = []
head_of (e ∷ rest) = e.from

-- a cycle: static edges that lead from the first module back to it, over different modules
abbrev pub IsCycle : Entries → List Edge → Type 0
IsCycle entries [] = ⊥
IsCycle entries (e ∷ rest) = IsChain entries e.from (e ∷ rest) e.from × AreApart (modules (e ∷ rest))

-- static edges lead from the module to a cycle
pub record IsStuck (entries : Entries) (s : Specifier) : Type 0 where
  pub path : List Edge
  pub cycle : List Edge
  pub leads : IsChain entries s path (head_of cycle)
  pub is : IsCycle entries cycle

-- the first static edge of its module that leads to a stuck one
pub record IsFirstStuck (entries : Entries) (e : Edge) : Type 0 where
  pub stuck : IsStuck entries e.to
  pub earlier : (f : Edge) → IsStaticEdge entries f → f.from ≡ e.from → f.place < e.place → IsStuck entries f.to → ⊥

-- The cycle of a walk from the least stuck module by bytes, which takes each module's first static edge to a stuck one: what
-- it goes between the two meetings of the module that it meets twice first.
pub record IsFirstCycle (entries : Entries) (cycle : List Edge) : Type 0 where
  pub start : Specifier
  pub stuck : IsStuck entries start
  pub least : (s : Specifier) → IsStuck entries s → IsUpTo start s
  -- what it goes before the first meeting
  pub front : List Edge
  pub walk : IsChain entries start (front ++ cycle) (head_of cycle)
  pub apart : AreApart (modules (front ++ cycle))
  pub first : AllByRecursion (IsFirstStuck entries) (front ++ cycle)
  pub is : IsCycle entries cycle

-- ---- which of both there is

abbrev pub HasOrder : Entries → Type 0
HasOrder entries = (list : List Specifier) × IsOrder entries list

abbrev pub HasCycle : Entries → Type 0
HasCycle entries = (cycle : List Edge) × IsCycle entries cycle

-- ---- what is answered

-- an edge of a cycle as it is handed out, by its texts
abbrev pub edge_of : CycleEdge → Edge
edge_of e = record { from = text_of e.module; place = e.dependency; to = text_of e.target }

-- the order, where no module is stuck and so there is no cycle; else the cycle, and there is no order
abbrev pub IsFound : Entries → Order → Type 0
IsFound entries (Sorted list) =
    IsLeastOrder entries (texts list) × ((s : Specifier) → IsStuck entries s → ⊥)
    × ((cycle : List Edge) → IsCycle entries cycle → ⊥)
IsFound entries (Cycle cycle) =
    IsFirstCycle entries (map edge_of cycle) × ((list : List Specifier) → IsOrder entries list → ⊥)
