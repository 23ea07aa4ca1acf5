-- When a plain tree fits a grammar over the keys of tokens, from one token up to another.
-- The grammar is read in one of two ways. `free` is the grammar's meaning: alternatives, optional parts and lists as they are
-- written, with the written predicates. In it no test that only chooses bars anything. `chosen` also obeys those tests, as the
-- code does. Both have the same trees (`free_is_chosen`, `chosen_is_free` in proofs/FreeLemmas.antt).
use Rattle.std.specs.Prelude.{◌≡◌, ℕ, zero, suc, ◌+◌, ◌≤◌, Bool, true, false, List, ◌⊎◌, Option, length}
use Rattle.grammar_theory.specs.Key.{Key, Seen, TokenTest, seen, has_kind, is}
use Rattle.grammar_theory.specs.Productions.{Predict, by_lookahead, greedy, by_predicate, Rhs, done, tok, punct, row, opt, many, alt, when_, where_, Production, refuse, make, choose, as_, pick, wrap}
use Rattle.grammar_theory.specs.Plain.{Plain, node, leaf, nil, cons, mark, turn, via, tall}

-- the most nodes on a path, which stand in each other: the program's own, and 500 below it (items, statements, expressions,
-- patterns, types)
unfoldable pub most_nodes : ℕ
most_nodes = 501

-- the two ways to read a grammar
pub data Reading : Type 0 where
  free chosen : Reading

-- a test that only chooses answers so; freely read it isn't asked
abbrev pub Asks : Reading → TokenTest → Bool → Option Seen → Type 0
Asks free t b x = Unit {0}
Asks chosen t b x = t x ≡ b

-- a part may be there, at this place
abbrev pub Present : Reading → Predict → List Key → ℕ → Type 0
Present h (by_lookahead t) K at = Asks h t true (seen K at)
Present h (greedy t) K at = Asks h t true (seen K at)
Present h (by_predicate g) K at = g K at ≡ true

-- a part may be absent, at this place
abbrev pub Absent : Reading → Predict → List Key → ℕ → Type 0
Absent h (by_lookahead t) K at = Asks h t false (seen K at)
Absent h (greedy t) K at = t (seen K at) ≡ false
Absent h (by_predicate g) K at = g K at ≡ false

-- the turns of a list, each of which fits
abbrev pub Turns : {NodeKind : Type 0} → Reading → List Key → Predict → (Plain NodeKind → ℕ → ℕ → Type 0) → Plain NodeKind → ℕ → ℕ → Type 0
Turns h K c One nil from to = Absent h c K from × (from ≡ to)
Turns {NodeKind} h K c One (turn q ps) from to =
    (mid : ℕ) × Present h c K from × One q from mid × Turns h K c One ps mid to
Turns h K c One _ from to = ⊥

-- an operand, with so many turns behind it
abbrev pub Wraps : {NodeKind : Type 0} → Reading → List Key → NodeKind → Predict → (Plain NodeKind → ℕ → ℕ → Type 0)
    → (Plain NodeKind → ℕ → ℕ → Type 0) → ℕ → Plain NodeKind → ℕ → ℕ → Type 0
Wraps h K l c Operand Parts zero p from to = Operand p from to
Wraps {NodeKind} h K l c Operand Parts (suc n) p from to =
    (q : Plain NodeKind) × (ps : Plain NodeKind) × (mid : ℕ) × (p ≡ node l from to (cons q ps))
    × Wraps h K l c Operand Parts n q from mid × Present h c K mid × Parts ps mid to

module _ {Row NodeKind : Type 0} where
  -- the parts of a node fit a form, where `below` tells which trees the rows that it names have
  abbrev pub Fits : Reading → List Key → (Row → Plain NodeKind → ℕ → ℕ → Type 0) → Rhs Row → Plain NodeKind → ℕ → ℕ → Type 0
  Fits h K below done p from to = (p ≡ nil) × (from ≡ to)
  Fits h K below (tok s may f) p from to =
      (ps : Plain NodeKind) × (p ≡ cons (leaf s from) ps) × (has_kind may (seen K from) ≡ true)
      × Fits h K below f ps (from + 1) to
  Fits h K below (punct k f) p from to =
      (ps : Plain NodeKind) × (p ≡ mark from ps) × (is k (seen K from) ≡ true) × Fits h K below f ps (from + 1) to
  Fits h K below (row r f) p from to =
      (q : Plain NodeKind) × (ps : Plain NodeKind) × (mid : ℕ) × (p ≡ cons q ps) × below r q from mid
      × Fits h K below f ps mid to
  Fits h K below (opt c g f) p from to =
      (q : Plain NodeKind) × (ps : Plain NodeKind) × (mid : ℕ) × (p ≡ cons q ps)
      × ((Present h c K from × Fits h K below g q from mid) ⊎ (Absent h c K from × (q ≡ nil) × (from ≡ mid)))
      × Fits h K below f ps mid to
  Fits h K below (many c g f) p from to =
      (q : Plain NodeKind) × (ps : Plain NodeKind) × (mid : ℕ) × (p ≡ cons q ps) × Turns h K c (Fits h K below g) q from mid
      × Fits h K below f ps mid to
  Fits h K below (alt t a b f) p from to =
      (q : Plain NodeKind) × (ps : Plain NodeKind) × (mid : ℕ) × (p ≡ cons q ps)
      × ((Asks h t true (seen K from) × Fits h K below a q from mid) ⊎ (Asks h t false (seen K from) × Fits h K below b q from mid))
      × Fits h K below f ps mid to
  Fits h K below (when_ t f) p from to = (t (seen K from) ≡ true) × Fits h K below f p from to
  Fits h K below (where_ t f) p from to = (t K from ≡ true) × Fits h K below f p from to

  -- a tree fits a rule
  abbrev pub IsBy : Reading → List Key → (Row → Plain NodeKind → ℕ → ℕ → Type 0) → Production Row NodeKind → Plain NodeKind → ℕ → ℕ → Type 0
  IsBy h K below refuse p from to = ⊥
  IsBy h K below (make l f) p from to = (ps : Plain NodeKind) × (p ≡ node l from to ps) × Fits h K below f ps from to
  IsBy h K below (choose t a b) p from to =
      (Asks h t true (seen K from) × IsBy h K below a p from to)
      ⊎ (Asks h t false (seen K from) × IsBy h K below b p from to)
  IsBy h K below (as_ w a) p from to = (q : Plain NodeKind) × (p ≡ via w q) × IsBy h K below a q from to
  IsBy h K below (pick g a b) p from to =
      ((g K from ≡ true) × IsBy h K below a p from to) ⊎ ((g K from ≡ false) × IsBy h K below b p from to)
  IsBy h K below (wrap l a c f) p from to =
      (n : ℕ) × Wraps h K l c (IsBy h K below a) (Fits h K below f) n p from to × Absent h c K to

  -- a tree of a row, with at most `room` rows on a path
  unfoldable pub Under : Reading → List Key → (Row → Production Row NodeKind) → ℕ → Row → Plain NodeKind → ℕ → ℕ → Type 0
  Under h K rule zero r p from to = ⊥
  Under h K rule (suc room) r p from to = IsBy h K (Under h K rule room) (rule r) p from to

  -- a tree of a row over all tokens, with at most `most_nodes` nodes on a path, where `leans` tells the alternatives that lean;
  -- each row makes a node that counts, so its rows are no more
  unfoldable pub Shape : (NodeKind → Bool) → Reading → (Row → Production Row NodeKind) → Row → List Key → Plain NodeKind
      → Type 0
  Shape leans h rule start K p = Under h K rule most_nodes start p 0 (length K) × (tall leans p ≤ most_nodes)
