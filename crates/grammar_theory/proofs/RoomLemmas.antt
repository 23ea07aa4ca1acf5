-- A tree of a row has a row no deeper than it has nodes: where its nodes that lean are made of turns behind an operand
-- alone, so much room is enough for it as it is tall. So more room than that reads nothing else.
use Rattle.std.specs.Prelude.{List, max, not, ◌&&◌, Bool, true, false}
use Rattle.std.proofs.Common.{◌≡◌, ℕ, zero, suc, ◌+◌, ◌≤◌, length, refl, sym, ap, subst, inl, inr, arith}
use Rattle.grammar_theory.specs.Key.{Key}
use Rattle.grammar_theory.specs.Productions.{Predict, Rhs, done, tok, punct, row, opt, many, alt, when_, where_, Production, refuse, make, choose, as_, pick, wrap}
use Rattle.grammar_theory.specs.Plain.{Plain, node, leaf, nil, cons, mark, turn, via, over, tall, plain}
use Rattle.grammar_theory.specs.Fits.{Reading, chosen, Turns, Wraps, Fits, IsBy, Under}
use Rattle.grammar_theory.specs.Checks.{IsSteady, leans_by_turns}
use Rattle.grammar_theory.specs.Reader.{gives, read_row}
use Rattle.grammar_theory.proofs.Progress.{both_hold}
use Rattle.grammar_theory.proofs.ReaderLemmas.{row_fits, row_reads}
use Rattle.grammar_theory.proofs.TallLemmas.{node_stands}

pub not_true : (b : Bool) → not b ≡ true → b ≡ false
not_true true e = sym e
not_true false e = refl

-- the same tree is as tall
tall_same : {NodeKind : Type 0} (leans : NodeKind → Bool) (n : ℕ) (p q : Plain NodeKind) → p ≡ q → tall leans p ≤ n
    → tall leans q ≤ n
tall_same leans n p q e h = let Q : Plain _ → Type 0 = λ t. tall leans t ≤ n in subst Q e h

first_le : (a b n : ℕ) → max a b ≤ n → a ≤ n
first_le a b n x = omega arith

rest_le : (a b n : ℕ) → max a b ≤ n → b ≤ n
rest_le a b n x = omega arith

operand_le : (b : Bool) (x y n : ℕ) → over b x y ≤ suc n → x ≤ suc n
operand_le true x y n h = omega arith
operand_le false x y n h = omega arith

turn_le : (b : Bool) (x y n : ℕ) → over b x y ≤ suc n → y ≤ n
turn_le true x y n h = omega arith
turn_le false x y n h = omega arith

-- a node counts
some_nodes : {NodeKind : Type 0} (leans : NodeKind → Bool) (l : NodeKind) (from to : ℕ) (ps : Plain NodeKind)
    → 1 ≤ tall leans (node l from to ps)
some_nodes leans l from to (cons q ps) = go (leans l) (tall leans q) (tall leans ps)
  where
    go : (b : Bool) (x y : ℕ) → 1 ≤ over b x y
    go true x y = omega arith
    go false x y = omega arith
some_nodes leans l from to (node m f t qs) = omega arith
some_nodes leans l from to (leaf s n) = omega arith
some_nodes leans l from to nil = omega arith
some_nodes leans l from to (mark n ps) = omega arith
some_nodes leans l from to (turn q ps) = omega arith
some_nodes leans l from to (via w q) = omega arith

turns_within : {NodeKind : Type 0} (leans : NodeKind → Bool) (h : Reading) (K : List Key) (c : Predict)
    (One Other : Plain NodeKind → ℕ → ℕ → Type 0) (n : ℕ)
    → ((q : Plain NodeKind) (from mid : ℕ) → One q from mid → tall leans q ≤ n → Other q from mid)
    → (ps : Plain NodeKind) (from to : ℕ) → Turns h K c One ps from to → tall leans ps ≤ n → Turns h K c Other ps from to
turns_within leans h K c One Other n each nil from to fit low = fit
turns_within leans h K c One Other n each (turn q ps) from to fit low = (
  fit.0,
  fit.1,
  each q from fit.0 fit.2 (first_le (tall leans q) (tall leans ps) n low),
  turns_within leans h K c One Other n each ps fit.0 to fit.3 (rest_le (tall leans q) (tall leans ps) n low),
)
turns_within leans h K c One Other n each _ from to fit low = absurd fit

module _ {Row NodeKind : Type 0} (leans : NodeKind → Bool) (h : Reading) (K : List Key)
    (Below Other : Row → Plain NodeKind → ℕ → ℕ → Type 0) (n : ℕ)
    (below_within : (r : Row) (q : Plain NodeKind) (from mid : ℕ) → Below r q from mid → tall leans q ≤ n
    → Other r q from mid) where
  -- the parts of a form that are as tall stand below it in another way too
  form_within : (f : Rhs Row) (p : Plain NodeKind) (from to : ℕ) → Fits h K Below f p from to → tall leans p ≤ n
      → Fits h K Other f p from to
  form_within done p from to fit low = fit
  form_within (tok s may f) p from to fit low =
      let all : tall leans (cons (leaf s from) fit.0) ≤ n = tall_same leans n p (cons (leaf s from) fit.0) fit.1 low in
      (fit.0, fit.1, fit.2, form_within f fit.0 (from + 1) to fit.3 (rest_le 0 (tall leans fit.0) n all))
  form_within (punct k f) p from to fit low =
      let all : tall leans (mark from fit.0) ≤ n = tall_same leans n p (mark from fit.0) fit.1 low in
      (fit.0, fit.1, fit.2, form_within f fit.0 (from + 1) to fit.3 all)
  form_within (row r f) p from to fit low =
      let all : tall leans (cons fit.0 fit.1) ≤ n = tall_same leans n p (cons fit.0 fit.1) fit.3 low in (
        fit.0,
        fit.1,
        fit.2,
        fit.3,
        below_within r fit.0 from fit.2 fit.4 (first_le (tall leans fit.0) (tall leans fit.1) n all),
        form_within f fit.1 fit.2 to fit.5 (rest_le (tall leans fit.0) (tall leans fit.1) n all),
      )
  form_within (opt c g f) p from to fit low =
      let all : tall leans (cons fit.0 fit.1) ≤ n = tall_same leans n p (cons fit.0 fit.1) fit.3 low in (
        fit.0,
        fit.1,
        fit.2,
        fit.3,
        elim fit.4 [
          | inl there ↦ inl (
            there.0,
            form_within g fit.0 from fit.2 there.1 (first_le (tall leans fit.0) (tall leans fit.1) n all),
          )
          | inr absent ↦ inr absent
        ],
        form_within f fit.1 fit.2 to fit.5 (rest_le (tall leans fit.0) (tall leans fit.1) n all),
      )
  form_within (many c g f) p from to fit low =
      let all : tall leans (cons fit.0 fit.1) ≤ n = tall_same leans n p (cons fit.0 fit.1) fit.3 low in (
        fit.0,
        fit.1,
        fit.2,
        fit.3,
        turns_within leans h K c (Fits h K Below g) (Fits h K Other g) n (form_within g) fit.0 from fit.2 fit.4
            (first_le (tall leans fit.0) (tall leans fit.1) n all),
        form_within f fit.1 fit.2 to fit.5 (rest_le (tall leans fit.0) (tall leans fit.1) n all),
      )
  form_within (alt t a b f) p from to fit low =
      let all : tall leans (cons fit.0 fit.1) ≤ n = tall_same leans n p (cons fit.0 fit.1) fit.3 low in (
        fit.0,
        fit.1,
        fit.2,
        fit.3,
        elim fit.4 [
          | inl one ↦ inl (
            one.0,
            form_within a fit.0 from fit.2 one.1 (first_le (tall leans fit.0) (tall leans fit.1) n all),
          )
          | inr other ↦ inr (
            other.0,
            form_within b fit.0 from fit.2 other.1 (first_le (tall leans fit.0) (tall leans fit.1) n all),
          )
        ],
        form_within f fit.1 fit.2 to fit.5 (rest_le (tall leans fit.0) (tall leans fit.1) n all),
      )
  form_within (when_ t f) p from to fit low = (fit.0, form_within f p from to fit.1 low)
  form_within (where_ t f) p from to fit low = (fit.0, form_within f p from to fit.1 low)

  -- an operand with turns
  wraps_within : (l : NodeKind) (c : Predict) (Operand Another Parts More : Plain NodeKind → ℕ → ℕ → Type 0)
      → ((q : Plain NodeKind) (from mid : ℕ) → Operand q from mid → tall leans q ≤ suc n → Another q from mid)
      → ((q : Plain NodeKind) (from mid : ℕ) → Parts q from mid → tall leans q ≤ n → More q from mid) → (k : ℕ)
      → (p : Plain NodeKind) (from to : ℕ) → Wraps h K l c Operand Parts k p from to → tall leans p ≤ suc n
      → Wraps h K l c Another More k p from to
  wraps_within l c Operand Another Parts More operand parts zero p from to fit low = operand p from to fit low
  wraps_within l c Operand Another Parts More operand parts (suc k) p from to fit low =
      let whole : tall leans (node l from to (cons fit.0 fit.1)) ≤ suc n =
      tall_same leans (suc n) p (node l from to (cons fit.0 fit.1)) fit.3 low in (
        fit.0,
        fit.1,
        fit.2,
        fit.3,
        wraps_within l c Operand Another Parts More operand parts k fit.0 from fit.2 fit.4
            (operand_le (leans l) (tall leans fit.0) (tall leans fit.1) n whole),
        fit.5,
        parts fit.1 fit.2 to fit.6 (turn_le (leans l) (tall leans fit.0) (tall leans fit.1) n whole),
      )

  -- a rule, one level above its parts
  rule_within : (a : Production Row NodeKind) → leans_by_turns leans a ≡ true → (p : Plain NodeKind) (from to : ℕ)
      → IsBy h K Below a p from to → tall leans p ≤ suc n
      → IsBy h K Other a p from to
  rule_within refuse apart p from to by low = absurd by
  rule_within (make l f) apart p from to by low =
      let whole : tall leans (node l from to by.0) ≤ suc n = tall_same leans (suc n) p (node l from to by.0) by.1 low in
      let one : tall leans (node l from to by.0) ≡ suc (tall leans by.0) =
      node_stands leans l from to by.0 (not_true (leans l) apart) in
      let parts : tall leans by.0 ≤ n = omega (arith, whole, one) in
      (by.0, by.1, form_within f by.0 from to by.2 parts)
  rule_within (choose t a b) apart p from to by low =
      let both = both_hold (leans_by_turns leans a) (leans_by_turns leans b) apart in
      elim by [
        | inl one ↦ inl (one.0, rule_within a both.0 p from to one.1 low)
        | inr other ↦ inr (other.0, rule_within b both.1 p from to other.1 low)
      ]
  rule_within (as_ w a) apart p from to by low =
      (by.0, by.1, rule_within a apart by.0 from to by.2 (tall_same leans (suc n) p (via w by.0) by.1 low))
  rule_within (pick g a b) apart p from to by low =
      let both = both_hold (leans_by_turns leans a) (leans_by_turns leans b) apart in
      elim by [
        | inl one ↦ inl (one.0, rule_within a both.0 p from to one.1 low)
        | inr other ↦ inr (other.0, rule_within b both.1 p from to other.1 low)
      ]
  rule_within (wrap l a c f) apart p from to by low = (
    by.0,
    wraps_within l c (IsBy h K Below a) (IsBy h K Other a) (Fits h K Below f) (Fits h K Other f)
        (rule_within a apart) (form_within f) by.0 p from to by.1 low,
    by.2,
  )

module _ {Row NodeKind : Type 0} (leans : NodeKind → Bool) (h : Reading) (K : List Key)
    (Below : Row → Plain NodeKind → ℕ → ℕ → Type 0) where
  wraps_count : (l : NodeKind) (c : Predict) (Operand Parts : Plain NodeKind → ℕ → ℕ → Type 0)
      → ((q : Plain NodeKind) (from mid : ℕ) → Operand q from mid → 1 ≤ tall leans q) → (k : ℕ) (p : Plain NodeKind)
      (from to : ℕ) → Wraps h K l c Operand Parts k p from to → 1 ≤ tall leans p
  wraps_count l c Operand Parts operand zero p from to fit = operand p from to fit
  wraps_count l c Operand Parts operand (suc k) p from to fit =
      let Q : Plain NodeKind → Type 0 = λ t. 1 ≤ tall leans t in
      subst Q (sym fit.3) (some_nodes leans l from to (cons fit.0 fit.1))

  -- a tree of a rule has a node that counts
  rule_counts : (a : Production Row NodeKind) (p : Plain NodeKind) (from to : ℕ) → IsBy h K Below a p from to
      → 1 ≤ tall leans p
  rule_counts refuse p from to by = absurd by
  rule_counts (make l f) p from to by =
      let Q : Plain NodeKind → Type 0 = λ t. 1 ≤ tall leans t in subst Q (sym by.1) (some_nodes leans l from to by.0)
  rule_counts (choose t a b) p from to by =
      elim by [
        | inl one ↦ rule_counts a p from to one.1
        | inr other ↦ rule_counts b p from to other.1
      ]
  rule_counts (as_ w a) p from to by =
      let Q : Plain NodeKind → Type 0 = λ t. 1 ≤ tall leans t in subst Q (sym by.1) (rule_counts a by.0 from to by.2)
  rule_counts (pick g a b) p from to by =
      elim by [
        | inl one ↦ rule_counts a p from to one.1
        | inr other ↦ rule_counts b p from to other.1
      ]
  rule_counts (wrap l a c f) p from to by =
      wraps_count l c (IsBy h K Below a) (Fits h K Below f) (rule_counts a) by.0 p from to by.1

module _ {Row NodeKind : Type 0} (leans : NodeKind → Bool) (rule : Row → Production Row NodeKind)
    (apart : (r : Row) → leans_by_turns leans (rule r) ≡ true) where
  -- a tree of a row stands in as much room as it is tall
  pub under_within : (h : Reading) (K : List Key) (room n : ℕ) (r : Row) (p : Plain NodeKind) (from to : ℕ)
      → Under h K rule room r p from to → tall leans p ≤ n → Under h K rule n r p from to
  unfolding Under
  under_within h K zero n r p from to under low = absurd under
  under_within h K (suc room) zero r p from to under low =
      let some : 1 ≤ tall leans p = rule_counts leans h K (Under h K rule room) (rule r) p from to under in
      absurd (let bad : ⊥ = omega (arith, some, low) in bad)
  under_within h K (suc room) (suc n) r p from to under low =
      rule_within leans h K (Under h K rule room) (Under h K rule n) n (under_within h K room n) (rule r) (apart r) p
      from to under low

  -- so what is read is read in as much room
  pub read_within : (solid : Row → Bool) → IsSteady rule solid → (K : List Key) (room n : ℕ) (r : Row) (at : ℕ)
      (p : Plain NodeKind) (to : ℕ) → at ≤ length K → read_row plain K rule room r at ≡ gives p to → tall leans p ≤ n
      → read_row plain K rule n r at ≡ gives p to
  read_within solid steady K room n r at p to place read low =
      row_reads K rule solid steady n r p at to place
      (under_within chosen K room n r p at to (row_fits K rule room r at p to read) low)
