-- Where no rule of a table has turns behind an operand, each node is a row's: its trees are no taller than they have room.
use Rattle.std.specs.Prelude.{List, max, ◌&&◌, Bool, true, false}
use Rattle.std.proofs.Common.{◌≡◌, ℕ, zero, suc, ◌+◌, ◌≤◌, refl, sym, ap, subst, inl, inr, arith}
use Rattle.grammar_theory.specs.Key.{Key}
use Rattle.grammar_theory.specs.Productions.{Predict, Rhs, done, tok, punct, row, opt, many, alt, when_, where_, Production, refuse, make, choose, as_, pick, wrap}
use Rattle.grammar_theory.specs.Plain.{Plain, node, leaf, nil, cons, mark, turn, via, over, tall}
use Rattle.grammar_theory.specs.Fits.{Reading, Turns, Fits, IsBy, Under}
use Rattle.grammar_theory.specs.Checks.{is_flat}
use Rattle.grammar_theory.proofs.OutLemmas.{clash}
use Rattle.grammar_theory.proofs.Progress.{both_hold}

-- the greater of two numbers that are at most another
max_le : (a b n : ℕ) → a ≤ n → b ≤ n → max a b ≤ n
max_le a b n x y = omega arith

-- a node is one taller than its parts, at most
pub node_tall : {NodeKind : Type 0} (leans : NodeKind → Bool) (l : NodeKind) (from to : ℕ) (ps : Plain NodeKind)
    → tall leans (node l from to ps) ≤ suc (tall leans ps)
node_tall leans l from to (cons q ps) = go (leans l) (tall leans q) (tall leans ps)
  where
    go : (b : Bool) (first rest : ℕ) → over b first rest ≤ suc (max first rest)
    go true first rest = omega arith
    go false first rest = omega arith
node_tall leans l from to (node m f t qs) = omega arith
node_tall leans l from to (leaf s n) = omega arith
node_tall leans l from to nil = omega arith
node_tall leans l from to (mark n ps) = omega arith
node_tall leans l from to (turn q ps) = omega arith
node_tall leans l from to (via w q) = omega arith

-- where it doesn't lean, exactly one
pub node_stands : {NodeKind : Type 0} (leans : NodeKind → Bool) (l : NodeKind) (from to : ℕ) (ps : Plain NodeKind)
    → leans l ≡ false → tall leans (node l from to ps) ≡ suc (tall leans ps)
node_stands leans l from to (cons q ps) e = ap (λ b. over b (tall leans q) (tall leans ps)) e
node_stands leans l from to (node m f t qs) e = refl
node_stands leans l from to (leaf s n) e = refl
node_stands leans l from to nil e = refl
node_stands leans l from to (mark n ps) e = refl
node_stands leans l from to (turn q ps) e = refl
node_stands leans l from to (via w q) e = refl

tall_moved : {NodeKind : Type 0} (leans : NodeKind → Bool) (n : ℕ) (p q : Plain NodeKind) → p ≡ q → tall leans q ≤ n
    → tall leans p ≤ n
tall_moved leans n p q e h = let Q : Plain _ → Type 0 = λ t. tall leans t ≤ n in subst Q (sym e) h

turns_tall : {NodeKind : Type 0} (leans : NodeKind → Bool) (h : Reading) (K : List Key) (c : Predict)
    (One : Plain NodeKind → ℕ → ℕ → Type 0)
    (n : ℕ)
    → ((q : Plain NodeKind) (from mid : ℕ) → One q from mid → tall leans q ≤ n)
    → (ps : Plain NodeKind) (from to : ℕ) → Turns h K c One ps from to → tall leans ps ≤ n
turns_tall leans h K c One n each nil from to fit = omega arith
turns_tall leans h K c One n each (turn q ps) from to fit =
    max_le (tall leans q) (tall leans ps) n (each q from fit.0 fit.2)
    (turns_tall leans h K c One n each ps fit.0 to fit.3)
turns_tall leans h K c One n each _ from to fit = absurd fit

module _ {Row NodeKind : Type 0} (leans : NodeKind → Bool) (h : Reading) (K : List Key)
    (Below : Row → Plain NodeKind → ℕ → ℕ → Type 0) (n : ℕ)
    (below_tall : (r : Row) (q : Plain NodeKind) (from mid : ℕ) → Below r q from mid → tall leans q ≤ n) where
  form_tall : (f : Rhs Row) (p : Plain NodeKind) (from to : ℕ) → Fits h K Below f p from to → tall leans p ≤ n
  form_tall done p from to fit = tall_moved leans n p nil fit.0 (omega arith)
  form_tall (tok s may f) p from to fit =
      tall_moved leans n p (cons (leaf s from) fit.0) fit.1
      (max_le 0 (tall leans fit.0) n (omega arith) (form_tall f fit.0 (from + 1) to fit.3))
  form_tall (punct k f) p from to fit =
      tall_moved leans n p (mark from fit.0) fit.1 (form_tall f fit.0 (from + 1) to fit.3)
  form_tall (row r f) p from to fit =
      tall_moved leans n p (cons fit.0 fit.1) fit.3
      (max_le (tall leans fit.0) (tall leans fit.1) n (below_tall r fit.0 from fit.2 fit.4)
      (form_tall f fit.1 fit.2 to fit.5))
  form_tall (opt c g f) p from to fit =
      tall_moved leans n p (cons fit.0 fit.1) fit.3
      (max_le (tall leans fit.0) (tall leans fit.1) n (elim fit.4 [
        | inl there ↦ form_tall g fit.0 from fit.2 there.1
        | inr absent ↦ tall_moved leans n fit.0 nil absent.1 (omega arith)
      ]) (form_tall f fit.1 fit.2 to fit.5))
  form_tall (many c g f) p from to fit =
      tall_moved leans n p (cons fit.0 fit.1) fit.3
      (max_le (tall leans fit.0) (tall leans fit.1) n
      (turns_tall leans h K c (Fits h K Below g) n (form_tall g) fit.0 from fit.2 fit.4)
      (form_tall f fit.1 fit.2 to fit.5))
  form_tall (alt t a b f) p from to fit =
      tall_moved leans n p (cons fit.0 fit.1) fit.3
      (max_le (tall leans fit.0) (tall leans fit.1) n (elim fit.4 [
        | inl one ↦ form_tall a fit.0 from fit.2 one.1
        | inr other ↦ form_tall b fit.0 from fit.2 other.1
      ]) (form_tall f fit.1 fit.2 to fit.5))
  form_tall (when_ t f) p from to fit = form_tall f p from to fit.1
  form_tall (where_ t f) p from to fit = form_tall f p from to fit.1

  rule_tall : (a : Production Row NodeKind) → is_flat a ≡ true → (p : Plain NodeKind) (from to : ℕ)
      → IsBy h K Below a p from to
      → tall leans p ≤ suc n
  rule_tall refuse flat p from to by = absurd by
  rule_tall (make l f) flat p from to by =
      tall_moved leans (suc n) p (node l from to by.0) by.1
      (let parts : tall leans by.0 ≤ n = form_tall f by.0 from to by.2 in
      let whole : tall leans (node l from to by.0) ≤ suc (tall leans by.0) = node_tall leans l from to by.0 in
      omega arith)
  rule_tall (choose t a b) flat p from to by =
      let both = both_hold (is_flat a) (is_flat b) flat in
      elim by [
        | inl one ↦ rule_tall a both.0 p from to one.1
        | inr other ↦ rule_tall b both.1 p from to other.1
      ]
  rule_tall (as_ w a) flat p from to by =
      tall_moved leans (suc n) p (via w by.0) by.1 (rule_tall a flat by.0 from to by.2)
  rule_tall (pick g a b) flat p from to by =
      let both = both_hold (is_flat a) (is_flat b) flat in
      elim by [
        | inl one ↦ rule_tall a both.0 p from to one.1
        | inr other ↦ rule_tall b both.1 p from to other.1
      ]
  rule_tall (wrap l a c f) flat p from to by = clash flat

-- a tree of a row of such a table
pub under_tall : {Row NodeKind : Type 0} (leans : NodeKind → Bool) (h : Reading) (K : List Key)
    (rule : Row → Production Row NodeKind)
    → ((r : Row) → is_flat (rule r) ≡ true) → (room : ℕ) (r : Row) (p : Plain NodeKind) (from to : ℕ)
    → Under h K rule room r p from to → tall leans p ≤ room
unfolding Under
under_tall leans h K rule flat zero r p from to under = absurd under
under_tall leans h K rule flat (suc room) r p from to under =
    rule_tall leans h K (Under h K rule room) room (under_tall leans h K rule flat room) (rule r) (flat r) p from to
    under
