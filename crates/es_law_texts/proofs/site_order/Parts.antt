-- Parts of plain trees, the tokens between which they stand, and those on which the sites in them do.
use Rattle.std.specs.Prelude.{ℕ, zero, suc, nat_le, true, List, [], ◌++◌}
use Rattle.std.proofs.Common.{◌≡◌, ◌≤◌, ◌<◌, refl, arith, leb-true}
use Rattle.es_token.specs.declared.token.Token.{Token}
use Rattle.es_grammar.specs.declared.rows.NodeKind.{NodeKind}
use Rattle.es_grammar.specs.declared.rows.NodeKind.TheVariants as l
use Rattle.es_site.specs.Sites.{Found}
use Rattle.es_law_sites.specs.plain.Part.{Part, absent, nil, more, token, node, part, as_group, group, found, at, inside, may, each, turns, as_target}
use Rattle.es_law_sites.specs.plain.Own.{own}
use Rattle.es_law_texts.specs.site_order.Order.{StandOn}
use Rattle.es_law_texts.proofs.site_order.Sites.{widen, both}

-- sites on tokens
pub record On (ts : List Token) (a b : ℕ) (sites : Found) : Type 0 where
  pub stand : StandOn ts a b sites

-- the sites of a node are those of its alternative, but of a target, which has none
abbrev pub Linked : List ℕ → List Token → NodeKind → Part → Found → Type 0
Linked x ts label p sites = (label ≡ l.Target → ⊥) → sites ≡ own x ts label p

-- a part between tokens
pub data Stands (x : List ℕ) (ts : List Token) : ℕ → ℕ → Part → Type 0 where
  gone : {a b : ℕ} → a ≤ b → Stands x ts a b absent
  end : {a b : ℕ} → a ≤ b → Stands x ts a b nil
  pair : {a m b : ℕ} {v p : Part} → Stands x ts a m v → Stands x ts m b p → Stands x ts a b (more v p)
  leaf : {a b : ℕ} (n : ℕ) → a ≤ n → n < b → Stands x ts a b (token n)
  made : {a b from to : ℕ} (label : NodeKind) {p : Part} {sites : Found} → a ≤ from → to ≤ b → from ≤ to
      → Linked x ts label p sites → Stands x ts from to p → On ts from to sites → Stands x ts a b (node label p sites)

-- ---- lists of sites
pub nothing : {ts : List Token} {a b : ℕ} → a ≤ b → On ts a b []
nothing le = record { stand = le }

pub on_wider : {ts : List Token} {a b c d : ℕ} {s : Found} → a ≤ b → c ≤ d → On ts b c s → On ts a d s
on_wider {ts = ts} {a = a} {b = b} {c = c} {d = d} {s = s} low high m =
    record { stand = widen ts a b c d s low high m.stand }

-- those of parts that stand behind each other
pub both_on : {ts : List Token} {a b c d : ℕ} {s u : Found} → b ≤ c → On ts a b s → On ts c d u → On ts a d (s ++ u)
both_on {ts = ts} {a = a} {b = b} {c = c} {d = d} {s = s} {u = u} le m n =
    record { stand = both ts a b d s u m.stand (widen ts b c d d u le (omega arith) n.stand) }

-- ---- places
pub ahead : {x : List ℕ} {ts : List Token} {a b : ℕ} {p : Part}
    → Stands x ts a b p → a ≤ b
ahead (gone le) = le
ahead (end le) = le
ahead {a = a} {b = b} (pair {m = m} h i) =
    let low : a ≤ m = ahead h in
    let high : m ≤ b = ahead i in
    omega (arith, low, high)
ahead {a = a} {b = b} (leaf n low high) = omega (arith, low, high)
ahead {a = a} {b = b} (made {from = from} {to = to} label low high mid link h m) = omega (arith, low, mid, high)

pub wider : {x : List ℕ} {ts : List Token} {a b c d : ℕ} {p : Part} → a ≤ b → c ≤ d
    → Stands x ts b c p → Stands x ts a d p
wider low high (gone le) = gone (omega (arith, low, le, high))
wider low high (end le) = end (omega (arith, low, le, high))
wider low high (pair {m = m} h i) = pair {m = m} (wider low (omega arith) h) (wider (omega arith) high i)
wider low high (leaf n from to) = leaf n (omega (arith, low, from)) (omega (arith, to, high))
wider low high (made label from to mid link h m) =
    made label (omega (arith, low, from)) (omega (arith, to, high)) mid link h m

-- where a part begins
abbrev pub place : {x : List ℕ} {ts : List Token} {a b : ℕ} {p : Part} → ℕ
    → Stands x ts a b p → ℕ
place {a = a} zero h = a
place (suc n) (pair h i) = place n i
place {b = b} (suc n) (gone le) = b
place {b = b} (suc n) (end le) = b
place {b = b} (suc n) (leaf k low high) = b
place {b = b} (suc n) (made label low high mid link h m) = b

pub up : {x : List ℕ} {ts : List Token} {a b : ℕ} {p : Part} (i j : ℕ)
    (h : Stands x ts a b p) → i ≤ j → place i h ≤ place j h
up zero zero h le = omega arith
up {a = a} zero (suc j) (pair {m = m} h i) le =
    let low : a ≤ m = ahead h in
    let high : m ≤ place j i = up zero j i (omega arith) in
    omega (arith, low, high)
up zero (suc j) (gone it) le = it
up zero (suc j) (end it) le = it
up zero (suc j) (leaf n low high) le = omega (arith, low, high)
up zero (suc j) (made label low high mid link h m) le = omega (arith, low, high, mid)
up (suc i) zero h le = absurd (let bad : ⊥ = omega (arith, le) in bad)
up (suc i) (suc j) (pair h k) le = up i j k (omega (arith, le))
up (suc i) (suc j) (gone it) le = omega arith
up (suc i) (suc j) (end it) le = omega arith
up (suc i) (suc j) (leaf n low high) le = omega arith
up (suc i) (suc j) (made label low high mid link h m) le = omega arith

pub last : {x : List ℕ} {ts : List Token} {a b : ℕ} {p : Part} (n : ℕ)
    (h : Stands x ts a b p) → place n h ≤ b
last zero h = ahead h
last (suc n) (pair h i) = last n i
last (suc n) (gone it) = omega arith
last (suc n) (end it) = omega arith
last (suc n) (leaf k low high) = omega arith
last (suc n) (made label low high mid link h m) = omega arith

pub part_stands : {x : List ℕ} {ts : List Token} {a b : ℕ} {p : Part} (n : ℕ)
    (h : Stands x ts a b p) → Stands x ts (place n h) (place (suc n) h) (part p n)
part_stands zero (pair h i) = h
part_stands (suc n) (pair h i) = part_stands n i
part_stands zero (gone le) = gone le
part_stands zero (end le) = gone le
part_stands zero (leaf k low high) = gone (omega (arith, low, high))
part_stands zero (made label low high mid link h m) =
    gone (omega (arith, low, high, mid))
part_stands (suc n) (gone le) = gone (omega arith)
part_stands (suc n) (end le) = gone (omega arith)
part_stands (suc n) (leaf k low high) = gone (omega arith)
part_stands (suc n) (made label low high mid link h m) = gone (omega arith)

pub grouped : {x : List ℕ} {ts : List Token} {a b : ℕ} {p : Part}
    → Stands x ts a b p → Stands x ts a b (as_group p)
grouped (gone le) = end le
grouped (end le) = end le
grouped (pair h i) = pair h i
grouped (leaf n low high) = end (omega (arith, low, high))
grouped (made label low high mid link h m) =
    end (omega (arith, low, high, mid))

pub group_stands : {x : List ℕ} {ts : List Token} {a b : ℕ} {p : Part} (n : ℕ)
    (h : Stands x ts a b p) → Stands x ts (place n h) (place (suc n) h) (group p n)
group_stands n h = grouped (part_stands n h)

pub as_target_stands : {x : List ℕ} {ts : List Token} {a b : ℕ} {p : Part}
    → Stands x ts a b p → Stands x ts a b (as_target p)
as_target_stands (gone le) = gone le
as_target_stands (end le) = gone le
as_target_stands (pair h i) = gone (ahead (pair h i))
as_target_stands (leaf n low high) = gone (omega (arith, low, high))
as_target_stands (made label low high mid link h m) =
    made l.Target low high mid (λ never. absurd (never refl)) h m

-- ---- the sites in parts

-- those of some parts of a node, from one up to another
pub record Run {x : List ℕ} {ts : List Token} {a b : ℕ} {p : Part}
    (h : Stands x ts a b p) (i j : ℕ) (s : Found) : Type 0 where
  pub on : On ts (place i h) (place j h) s

pub all : {x : List ℕ} {ts : List Token} {a b : ℕ} {p : Part}
    {h : Stands x ts a b p} {i j : ℕ} {s : Found} → Run h i j s → On ts a b s
all {h = h} {i = i} {j = j} run = on_wider (up zero i h (omega arith)) (last j h) run.on

pub two : {x : List ℕ} {ts : List Token} {a b : ℕ} {p : Part}
    {h : Stands x ts a b p} {i j k n : ℕ} {s u : Found} → Run h i j s → Run h k n u
    → nat_le j k ≡ true → Run h i n (s ++ u)
two {h = h} {j = j} {k = k} first other le =
    record { on = both_on (up j k h (leb-true j k le)) first.on other.on }

pub found_on : {x : List ℕ} {ts : List Token} {a b : ℕ} {p : Part}
    → Stands x ts a b p → On ts a b (found p)
found_on (gone le) = nothing le
found_on (end le) = nothing le
found_on (pair h i) = nothing (ahead (pair h i))
found_on (leaf n low high) = nothing (omega (arith, low, high))
found_on (made label low high mid link h m) = on_wider low high m

pub at_run : {x : List ℕ} {ts : List Token} {a b : ℕ} {p : Part}
    (h : Stands x ts a b p) (n : ℕ) → Run h n (suc n) (at p n)
at_run h n = record { on = found_on (part_stands n h) }

-- sites that stand between the same tokens as the part that they are found in, whatever it is
abbrev pub AllOn : List ℕ → List Token → (Part → Found) → Type 0
AllOn x ts f = (a b : ℕ) (p : Part) → Stands x ts a b p → On ts a b (f p)

pub inside_on : {x : List ℕ} {ts : List Token} {a b : ℕ} {p : Part}
    (f : Part → Found) → AllOn x ts f → Stands x ts a b p
    → On ts a b (inside f p)
inside_on f k (gone le) = nothing le
inside_on f k (end le) = nothing le
inside_on f k (pair h i) = k _ _ _ (pair h i)
inside_on f k (leaf n low high) = nothing (omega (arith, low, high))
inside_on f k (made label low high mid link h m) =
    nothing (omega (arith, low, high, mid))

pub each_on : {x : List ℕ} {ts : List Token} {a b : ℕ} {p : Part}
    (f : Part → Found) → AllOn x ts f → Stands x ts a b p
    → On ts a b (each f p)
each_on f k (gone le) = nothing le
each_on f k (end le) = nothing le
each_on f k (pair h i) = both_on (omega arith) (k _ _ _ (grouped h)) (each_on f k i)
each_on f k (leaf n low high) = nothing (omega (arith, low, high))
each_on f k (made label low high mid link h m) =
    nothing (omega (arith, low, high, mid))

-- of a part that holds parts
pub inside_run : {x : List ℕ} {ts : List Token} {a b : ℕ} {p : Part}
    (h : Stands x ts a b p) (n : ℕ) (f : Part → Found) → AllOn x ts f
    → Run h n (suc n) (inside f (group p n))
inside_run h n f k = record { on = inside_on f k (group_stands n h) }

pub each_run : {x : List ℕ} {ts : List Token} {a b : ℕ} {p : Part}
    (h : Stands x ts a b p) (n : ℕ) (f : Part → Found) → AllOn x ts f
    → Run h n (suc n) (each f (group p n))
each_run h n f k = record { on = each_on f k (group_stands n h) }

pub may_run : {x : List ℕ} {ts : List Token} {a b : ℕ} {p : Part}
    (h : Stands x ts a b p) (n : ℕ) → Run h n (suc n) (may p n)
may_run h n = inside_run h n (λ g. at g 0) (λ a b p i. all (at_run i 0))

pub turns_run : {x : List ℕ} {ts : List Token} {a b : ℕ} {p : Part}
    (h : Stands x ts a b p) (n m : ℕ) → Run h n (suc n) (turns p n m)
turns_run h n m = each_run h n (λ turn. at turn m) (λ a b p i. all (at_run i m))

pub at_in : {x : List ℕ} {ts : List Token} {a b : ℕ} {p : Part}
    (h : Stands x ts a b p) (n m : ℕ) → Run h n (suc n) (at (group p n) m)
at_in h n m = record { on = all (at_run (group_stands n h) m) }

pub turns_in : {x : List ℕ} {ts : List Token} {a b : ℕ} {p : Part}
    (h : Stands x ts a b p) (n m k : ℕ)
    → Run h n (suc n) (turns (group p n) m k)
turns_in h n m k = record { on = all (turns_run (group_stands n h) m k) }

-- of two parts of one that holds parts, and of parts behind it
pub two_in : {x : List ℕ} {ts : List Token} {a b : ℕ} {p : Part}
    {h : Stands x ts a b p} {k n : ℕ} {u : Found} (m i j : ℕ) → nat_le (suc i) j ≡ true
    → Run h k n u → nat_le (suc m) k ≡ true
    → Run h m n (at (group p m) i ++ (at (group p m) j ++ u))
two_in {h = h} {k = k} m i j le rest behind =
    let g = group_stands m h in
    let first = on_wider (up zero i g (omega arith)) (omega arith) (at_run g i).on in
    let second = on_wider (omega arith) (last (suc j) g) (at_run g j).on in
    record {
      on = both_on (up (suc i) j g (leb-true (suc i) j le)) first
          (both_on (up (suc m) k h (leb-true (suc m) k behind)) second rest.on);
    }
