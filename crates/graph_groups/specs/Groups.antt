-- The groups of a graph's modules that static edges connect both there and back.
use Rattle.std.specs.Prelude.{◌≡◌, ◌↔◌, ◌||◌, Bool, true, false, List, [], ◌∷◌, ◌++◌, length}
use Rattle.std.specs.List.{AllByRecursion}
use Rattle.std.specs.Ordering.{nat_cmp}
use Rattle.std.specs.Cmp.Lexicographic.{slice_cmp}
use Rattle.std.specs.declared.cmp.Ordering.TheVariants.{Less}
use Rattle.graph_builder.specs.Rules.{Specifier}
use Rattle.graph_builder.specs.Reach.{has}
use Rattle.graph_order.specs.Edges.{Entries, IsModule, Edge, IsStaticEdge}
use Rattle.graph_order.specs.Order.{IsChain, IsUpTo}

-- a chain of static edges, or of none, leads from one specifier to the other
pub record Reaches (entries : Entries) (s t : Specifier) : Type 0 where
  pub path : List Edge
  pub leads : IsChain entries s path t

-- each of the two reaches the other
pub record AreMutual (entries : Entries) (s t : Specifier) : Type 0 where
  pub there : Reaches entries s t
  pub back : Reaches entries t s

-- each specifier is before those after it, by bytes
abbrev pub AreAscending : List Specifier → Type 0
AreAscending [] = Unit {0}
AreAscending (s ∷ rest) = AllByRecursion (λ t. slice_cmp nat_cmp s t ≡ Less) rest × AreAscending rest

-- the first specifier
abbrev pub first_of : List Specifier → Specifier
first_of [] = []
first_of (s ∷ rest) = s

-- a group by its modules' specifiers: with each of them exactly those that it reaches and that reach it, ascending
pub record IsGroup (entries : Entries) (members : List Specifier) : Type 0 where
  pub some : length members ≡ 0 → ⊥
  pub ascending : AreAscending members
  pub modules : (s : Specifier) → has members s ≡ true → IsModule entries s
  pub whole : (s t : Specifier) → has members s ≡ true → (has members t ≡ true) ↔ AreMutual entries s t

-- ---- their order

-- the specifier is in one of these groups
abbrev pub holds : List (List Specifier) → Specifier → Bool
holds [] s = false
holds (c ∷ rest) s = has c s || holds rest s

-- after these groups this one may come: it isn't among them, and static edges of its members lead to members or into
-- them
pub record IsReady (entries : Entries) (front : List (List Specifier)) (c : List Specifier) : Type 0 where
  pub group : IsGroup entries c
  pub open_yet : (s : Specifier) → has c s ≡ true → holds front s ≡ false
  pub after : (e : Edge) → IsStaticEdge entries e → has c e.from ≡ true → (has c e.to || holds front e.to) ≡ true

-- and of those that may it has the least specifier by bytes
pub record IsLeastReady (entries : Entries) (front : List (List Specifier)) (c : List Specifier) : Type 0 where
  pub ready : IsReady entries front c
  pub least : (d : List Specifier) → IsReady entries front d → IsUpTo (first_of c) (first_of d)

-- each group may come so after those before it, the first ones being these
abbrev pub EachAfter : (List (List Specifier) → List Specifier → Type 0) → List (List Specifier) → List (List Specifier)
    → Type 0
EachAfter Comes front [] = Unit {0}
EachAfter Comes front (c ∷ rest) = Comes front c × EachAfter Comes (front ++ c ∷ []) rest

-- all groups in evaluation order: each module is in one, and at each place is, of those that may come there, the one
-- with the least specifier
pub record AreGroups (entries : Entries) (list : List (List Specifier)) : Type 0 where
  pub all : (s : Specifier) → IsModule entries s → holds list s ≡ true
  pub each : EachAfter (IsLeastReady entries) [] list
