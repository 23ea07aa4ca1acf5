-- Parts of plain trees over two texts, the same but for the sites in them, and between which tokens they stand.
use Rattle.std.specs.Prelude.{ℕ, zero, suc, nat_le, true, List, [], ◌∷◌, ◌++◌}
use Rattle.std.proofs.Common.{◌≡◌, ◌≤◌, ◌<◌, refl, sym, ap, ◌∙◌, arith, leb-true}
use Rattle.es_token.specs.declared.token.Token.{Token}
use Rattle.es_grammar.specs.declared.rows.NodeKind.{NodeKind}
use Rattle.es_grammar.specs.declared.rows.NodeKind.TheVariants as l
use Rattle.es_site.specs.declared.site.Attribute.{Attribute}
use Rattle.es_site.specs.Sites.{Found}
use Rattle.es_law_sites.specs.plain.Part.{Part, absent, nil, more, token, node, part, as_group, group, is_there, found, at, inside, may, each, turns, as_target}
use Rattle.es_law_sites.specs.plain.Own.{own}
use Rattle.es_law_texts.specs.site_order.Order.{StandOn}
use Rattle.source_text.specs.declared.text_changes.change.TextChange.{TextChange}
use Rattle.es_law_edits.specs.sites.Moved.{SitesMove, none, one, attributes_of}
use Rattle.es_law_edits.proofs.sites.Stands.{Apart, Safe, widen, both_stand, safe_left, safe_right, narrower}

-- ---- sites and what became of them

-- the old ones stand on these tokens and have moved; their attributes stay where all changes among these tokens are
-- theirs
pub record Moves (changes : List TextChange) (ts : List Token) (a b : ℕ) (old new : Found) : Type 0 where
  pub stand : StandOn ts a b old
  pub move : SitesMove changes old new
  pub attributes : Apart ts → Safe changes ts a b old → attributes_of new ≡ attributes_of old

-- the sites of a node are those of its alternative, but of a target, which has none
abbrev pub Linked : List ℕ → List Token → NodeKind → Part → Found → Type 0
Linked x ts label p sites = (label ≡ l.Target → ⊥) → sites ≡ own x ts label p

-- parts of the same form between these tokens
pub data Alike (changes : List TextChange) (x : List ℕ) (ts : List Token) : ℕ → ℕ → Part → Part → Type 0 where
  gone : {a b : ℕ} → a ≤ b → Alike changes x ts a b absent absent
  end : {a b : ℕ} → a ≤ b → Alike changes x ts a b nil nil
  pair : {a m b : ℕ} {v w p q : Part} → Alike changes x ts a m v w → Alike changes x ts m b p q
      → Alike changes x ts a b (more v p) (more w q)
  leaf : {a b : ℕ} (n : ℕ) → a ≤ n → n < b → Alike changes x ts a b (token n) (token n)
  made : {a b from to : ℕ} (label : NodeKind) {p q : Part} {s t : Found} → a ≤ from → to ≤ b → from ≤ to
      → Linked x ts label p s → Alike changes x ts from to p q → Moves changes ts from to s t
      → Alike changes x ts a b (node label p s) (node label q t)

-- ---- lists of sites
pub nothing : {changes : List TextChange} {ts : List Token} {a b : ℕ} → a ≤ b → Moves changes ts a b [] []
nothing le = record { stand = le; move = none; attributes = λ apart safe. refl }

pub moves_wider : {changes : List TextChange} {ts : List Token} {a b c d : ℕ} {s t : Found} → a ≤ b → c ≤ d
    → Moves changes ts b c s t → Moves changes ts a d s t
moves_wider {changes = changes} {ts = ts} {a = a} {b = b} {c = c} {d = d} {s = s} low high m = record {
  stand = widen ts a b c d s low high m.stand;
  move = m.move;
  attributes = λ apart safe. m.attributes apart (narrower changes ts apart a b c d s low high safe);
}

append : {changes : List TextChange} {s t u v : Found} → SitesMove changes s t → SitesMove changes u v
    → SitesMove changes (s ++ u) (t ++ v)
append none k = k
append (one old new olds news h i) k = one old new (olds ++ _) (news ++ _) h (append i k)

attributes_append : (s t : Found) → attributes_of (s ++ t) ≡ attributes_of s ++ attributes_of t
attributes_append [] t = refl
attributes_append (site ∷ s) t = ap (λ (rest : List Attribute). site.attribute ∷ rest) (attributes_append s t)

same_append : (s t u v : Found) → attributes_of t ≡ attributes_of s → attributes_of v ≡ attributes_of u
    → attributes_of (t ++ v) ≡ attributes_of (s ++ u)
same_append s t u v e f =
    attributes_append t v
    ∙ (ap (λ (front : List Attribute). front ++ attributes_of v) e
    ∙ (ap (λ (back : List Attribute). attributes_of s ++ back) f ∙ sym (attributes_append s u)))

-- those of parts that stand behind each other
pub both_move : {changes : List TextChange} {ts : List Token} {a b c d : ℕ} {s t u v : Found} → b ≤ c
    → Moves changes ts a b s t → Moves changes ts c d u v → Moves changes ts a d (s ++ u) (t ++ v)
both_move {changes = changes} {ts = ts} {a = a} {b = b} {c = c} {d = d} {s = s} {t = t} {u = u} {v = v} le m n =
    record {
      stand = both_stand ts a b d s u m.stand (widen ts b c d d u le (omega arith) n.stand);
      move = append m.move n.move;
      attributes = λ apart safe.
          same_append s t u v (m.attributes apart (safe_left changes ts apart a b c d s u le n.stand safe))
          (n.attributes apart (safe_right changes ts apart a b c d s u le m.stand safe));
    }

-- ---- places
pub ahead : {changes : List TextChange} {x : List ℕ} {ts : List Token} {a b : ℕ} {p q : Part}
    → Alike changes x ts a b p q → a ≤ b
ahead (gone le) = le
ahead (end le) = le
ahead {a = a} {b = b} (pair {m = m} h i) =
    let low : a ≤ m = ahead h in
    let high : m ≤ b = ahead i in
    omega (arith, low, high)
ahead {a = a} {b = b} (leaf n low high) = omega (arith, low, high)
ahead {a = a} {b = b} (made {from = from} {to = to} label low high mid link h m) = omega (arith, low, mid, high)

pub wider : {changes : List TextChange} {x : List ℕ} {ts : List Token} {a b c d : ℕ} {p q : Part} → a ≤ b → c ≤ d
    → Alike changes x ts b c p q → Alike changes x ts a d p q
wider low high (gone le) = gone (omega (arith, low, le, high))
wider low high (end le) = end (omega (arith, low, le, high))
wider low high (pair {m = m} h i) = pair {m = m} (wider low (omega arith) h) (wider (omega arith) high i)
wider low high (leaf n from to) = leaf n (omega (arith, low, from)) (omega (arith, to, high))
wider low high (made label from to mid link h m) =
    made label (omega (arith, low, from)) (omega (arith, to, high)) mid link h m

-- where a part begins
abbrev pub place : {changes : List TextChange} {x : List ℕ} {ts : List Token} {a b : ℕ} {p q : Part} → ℕ
    → Alike changes x ts a b p q → ℕ
place {a = a} zero h = a
place (suc n) (pair h i) = place n i
place {b = b} (suc n) (gone le) = b
place {b = b} (suc n) (end le) = b
place {b = b} (suc n) (leaf k low high) = b
place {b = b} (suc n) (made label low high mid link h m) = b

pub up : {changes : List TextChange} {x : List ℕ} {ts : List Token} {a b : ℕ} {p q : Part} (i j : ℕ)
    (h : Alike changes x ts a b p q) → i ≤ j → place i h ≤ place j h
up zero zero h le = omega arith
up {a = a} zero (suc j) (pair {m = m} h i) le =
    let low : a ≤ m = ahead h in
    let high : m ≤ place j i = up zero j i (omega arith) in
    omega (arith, low, high)
up zero (suc j) (gone it) le = it
up zero (suc j) (end it) le = it
up zero (suc j) (leaf n low high) le = omega (arith, low, high)
up zero (suc j) (made label low high mid link h m) le = omega (arith, low, high, mid)
up (suc i) zero h le = absurd (let bad : ⊥ = omega (arith, le) in bad)
up (suc i) (suc j) (pair h k) le = up i j k (omega (arith, le))
up (suc i) (suc j) (gone it) le = omega arith
up (suc i) (suc j) (end it) le = omega arith
up (suc i) (suc j) (leaf n low high) le = omega arith
up (suc i) (suc j) (made label low high mid link h m) le = omega arith

pub last : {changes : List TextChange} {x : List ℕ} {ts : List Token} {a b : ℕ} {p q : Part} (n : ℕ)
    (h : Alike changes x ts a b p q) → place n h ≤ b
last zero h = ahead h
last (suc n) (pair h i) = last n i
last (suc n) (gone it) = omega arith
last (suc n) (end it) = omega arith
last (suc n) (leaf k low high) = omega arith
last (suc n) (made label low high mid link h m) = omega arith

pub part_alike : {changes : List TextChange} {x : List ℕ} {ts : List Token} {a b : ℕ} {p q : Part} (n : ℕ)
    (h : Alike changes x ts a b p q) → Alike changes x ts (place n h) (place (suc n) h) (part p n) (part q n)
part_alike zero (pair h i) = h
part_alike (suc n) (pair h i) = part_alike n i
part_alike zero (gone le) = gone le
part_alike zero (end le) = gone le
part_alike zero (leaf k low high) = gone (omega (arith, low, high))
part_alike zero (made label low high mid link h m) =
    gone (omega (arith, low, high, mid))
part_alike (suc n) (gone le) = gone (omega arith)
part_alike (suc n) (end le) = gone (omega arith)
part_alike (suc n) (leaf k low high) = gone (omega arith)
part_alike (suc n) (made label low high mid link h m) = gone (omega arith)

pub grouped : {changes : List TextChange} {x : List ℕ} {ts : List Token} {a b : ℕ} {p q : Part}
    → Alike changes x ts a b p q → Alike changes x ts a b (as_group p) (as_group q)
grouped (gone le) = end le
grouped (end le) = end le
grouped (pair h i) = pair h i
grouped (leaf n low high) = end (omega (arith, low, high))
grouped (made label low high mid link h m) =
    end (omega (arith, low, high, mid))

pub group_alike : {changes : List TextChange} {x : List ℕ} {ts : List Token} {a b : ℕ} {p q : Part} (n : ℕ)
    (h : Alike changes x ts a b p q) → Alike changes x ts (place n h) (place (suc n) h) (group p n) (group q n)
group_alike n h = grouped (part_alike n h)

pub there : {changes : List TextChange} {x : List ℕ} {ts : List Token} {a b : ℕ} {p q : Part}
    → Alike changes x ts a b p q → is_there p ≡ is_there q
there (gone le) = refl
there (end le) = refl
there (pair h i) = refl
there (leaf n low high) = refl
there (made label low high mid link h m) = refl

pub as_target_alike : {changes : List TextChange} {x : List ℕ} {ts : List Token} {a b : ℕ} {p q : Part}
    → Alike changes x ts a b p q → Alike changes x ts a b (as_target p) (as_target q)
as_target_alike (gone le) = gone le
as_target_alike (end le) = gone le
as_target_alike (pair h i) = gone (ahead (pair h i))
as_target_alike (leaf n low high) = gone (omega (arith, low, high))
as_target_alike (made label low high mid link h m) = made l.Target low high mid (λ never. absurd (never refl)) h m

-- ---- the sites in parts

-- those of some parts of a node, from one up to another
pub record Run {changes : List TextChange} {x : List ℕ} {ts : List Token} {a b : ℕ} {p q : Part}
    (h : Alike changes x ts a b p q) (i j : ℕ) (s t : Found) : Type 0 where
  pub moves : Moves changes ts (place i h) (place j h) s t

pub all : {changes : List TextChange} {x : List ℕ} {ts : List Token} {a b : ℕ} {p q : Part}
    {h : Alike changes x ts a b p q} {i j : ℕ} {s t : Found} → Run h i j s t → Moves changes ts a b s t
all {h = h} {i = i} {j = j} run = moves_wider (up zero i h (omega arith)) (last j h) run.moves

pub two : {changes : List TextChange} {x : List ℕ} {ts : List Token} {a b : ℕ} {p q : Part}
    {h : Alike changes x ts a b p q} {i j k n : ℕ} {s t u v : Found} → Run h i j s t → Run h k n u v
    → nat_le j k ≡ true → Run h i n (s ++ u) (t ++ v)
two {h = h} {j = j} {k = k} first other le =
    record { moves = both_move (up j k h (leb-true j k le)) first.moves other.moves }

pub found_moves : {changes : List TextChange} {x : List ℕ} {ts : List Token} {a b : ℕ} {p q : Part}
    → Alike changes x ts a b p q → Moves changes ts a b (found p) (found q)
found_moves (gone le) = nothing le
found_moves (end le) = nothing le
found_moves (pair h i) = nothing (ahead (pair h i))
found_moves (leaf n low high) = nothing (omega (arith, low, high))
found_moves (made label low high mid link h m) = moves_wider low high m

pub at_run : {changes : List TextChange} {x : List ℕ} {ts : List Token} {a b : ℕ} {p q : Part}
    (h : Alike changes x ts a b p q) (n : ℕ) → Run h n (suc n) (at p n) (at q n)
at_run h n = record { moves = found_moves (part_alike n h) }

-- sites that move in all parts alike
abbrev pub MoveAll : List TextChange → List ℕ → List Token → (Part → Found) → (Part → Found) → Type 0
MoveAll changes x ts f g =
    (a b : ℕ) (p q : Part) → Alike changes x ts a b p q → Moves changes ts a b (f p) (g q)

pub inside_moves : {changes : List TextChange} {x : List ℕ} {ts : List Token} {a b : ℕ} {p q : Part}
    (f g : Part → Found) → MoveAll changes x ts f g → Alike changes x ts a b p q
    → Moves changes ts a b (inside f p) (inside g q)
inside_moves f g k (gone le) = nothing le
inside_moves f g k (end le) = nothing le
inside_moves f g k (pair h i) = k _ _ _ _ (pair h i)
inside_moves f g k (leaf n low high) = nothing (omega (arith, low, high))
inside_moves f g k (made label low high mid link h m) =
    nothing (omega (arith, low, high, mid))

pub each_moves : {changes : List TextChange} {x : List ℕ} {ts : List Token} {a b : ℕ} {p q : Part}
    (f g : Part → Found) → MoveAll changes x ts f g → Alike changes x ts a b p q
    → Moves changes ts a b (each f p) (each g q)
each_moves f g k (gone le) = nothing le
each_moves f g k (end le) = nothing le
each_moves f g k (pair h i) = both_move (omega arith) (k _ _ _ _ (grouped h)) (each_moves f g k i)
each_moves f g k (leaf n low high) = nothing (omega (arith, low, high))
each_moves f g k (made label low high mid link h m) =
    nothing (omega (arith, low, high, mid))

-- of a part that holds parts
pub inside_run : {changes : List TextChange} {x : List ℕ} {ts : List Token} {a b : ℕ} {p q : Part}
    (h : Alike changes x ts a b p q) (n : ℕ) (f g : Part → Found) → MoveAll changes x ts f g
    → Run h n (suc n) (inside f (group p n)) (inside g (group q n))
inside_run h n f g k = record { moves = inside_moves f g k (group_alike n h) }

pub each_run : {changes : List TextChange} {x : List ℕ} {ts : List Token} {a b : ℕ} {p q : Part}
    (h : Alike changes x ts a b p q) (n : ℕ) (f g : Part → Found) → MoveAll changes x ts f g
    → Run h n (suc n) (each f (group p n)) (each g (group q n))
each_run h n f g k = record { moves = each_moves f g k (group_alike n h) }

pub may_run : {changes : List TextChange} {x : List ℕ} {ts : List Token} {a b : ℕ} {p q : Part}
    (h : Alike changes x ts a b p q) (n : ℕ) → Run h n (suc n) (may p n) (may q n)
may_run h n = inside_run h n (λ g. at g 0) (λ g. at g 0) (λ a b p q i. all (at_run i 0))

pub turns_run : {changes : List TextChange} {x : List ℕ} {ts : List Token} {a b : ℕ} {p q : Part}
    (h : Alike changes x ts a b p q) (n m : ℕ) → Run h n (suc n) (turns p n m) (turns q n m)
turns_run h n m = each_run h n (λ turn. at turn m) (λ turn. at turn m) (λ a b p q i. all (at_run i m))

pub at_in : {changes : List TextChange} {x : List ℕ} {ts : List Token} {a b : ℕ} {p q : Part}
    (h : Alike changes x ts a b p q) (n m : ℕ) → Run h n (suc n) (at (group p n) m) (at (group q n) m)
at_in h n m = record { moves = all (at_run (group_alike n h) m) }

pub turns_in : {changes : List TextChange} {x : List ℕ} {ts : List Token} {a b : ℕ} {p q : Part}
    (h : Alike changes x ts a b p q) (n m k : ℕ)
    → Run h n (suc n) (turns (group p n) m k) (turns (group q n) m k)
turns_in h n m k = record { moves = all (turns_run (group_alike n h) m k) }

-- of two parts of one that holds parts, and of parts behind it
pub two_in : {changes : List TextChange} {x : List ℕ} {ts : List Token} {a b : ℕ} {p q : Part}
    {h : Alike changes x ts a b p q} {k n : ℕ} {u v : Found} (m i j : ℕ) → nat_le (suc i) j ≡ true
    → Run h k n u v → nat_le (suc m) k ≡ true
    → Run h m n (at (group p m) i ++ (at (group p m) j ++ u)) (at (group q m) i ++ (at (group q m) j ++ v))
two_in {h = h} {k = k} m i j le rest behind =
    let g = group_alike m h in
    let first = moves_wider (up zero i g (omega arith)) (omega arith) (at_run g i).moves in
    let second = moves_wider (omega arith) (last (suc j) g) (at_run g j).moves in
    record {
      moves = both_move (up (suc i) j g (leb-true (suc i) j le)) first
          (both_move (up (suc m) k h (leb-true (suc m) k behind)) second rest.moves);
    }
