-- Whatever the table, the parts of a tree that fits it stand in order, each within the range of the node that holds it.
use Rattle.std.specs.Prelude.{List}
use Rattle.std.proofs.Common.{◌≡◌, ℕ, zero, suc, ◌+◌, sym, subst, inl, inr, arith}
use Rattle.grammar_theory.specs.Key.{Key}
use Rattle.grammar_theory.specs.Productions.{Predict, Rhs, done, tok, punct, row, opt, many, alt, when_, where_, Production, refuse, make, choose, as_, pick, wrap}
use Rattle.grammar_theory.specs.Plain.{Plain, node, leaf, nil, cons, mark, turn, via}
use Rattle.grammar_theory.specs.Fits.{Reading, Turns, Wraps, Fits, IsBy, Under}
use Rattle.es_grammar.specs.types.Order.{StandsBetween}

stands_moved : {NodeKind : Type 0} (from to : ℕ) (p q : Plain NodeKind) → p ≡ q → StandsBetween from to q
    → StandsBetween from to p
stands_moved from to p q e h = let Q : Plain _ → Type 0 = λ t. StandsBetween from to t in subst Q (sym e) h

turns_stand : {NodeKind : Type 0} (h : Reading) (K : List Key) (c : Predict) (One : Plain NodeKind → ℕ → ℕ → Type 0)
    → ((q : Plain NodeKind) (from mid : ℕ) → One q from mid → StandsBetween from mid q)
    → (ps : Plain NodeKind) (from to : ℕ) → Turns h K c One ps from to → StandsBetween from to ps
turns_stand h K c One each nil from to fit = let same = fit.1 in omega (arith, same)
turns_stand h K c One each (turn q ps) from to fit =
    (fit.0, each q from fit.0 fit.2, turns_stand h K c One each ps fit.0 to fit.3)
turns_stand h K c One each _ from to fit = absurd fit

wraps_stand : {NodeKind : Type 0} (h : Reading) (K : List Key) (l : NodeKind) (c : Predict)
    (A B : Plain NodeKind → ℕ → ℕ → Type 0)
    → ((q : Plain NodeKind) (from mid : ℕ) → A q from mid → StandsBetween from mid q)
    → ((q : Plain NodeKind) (from mid : ℕ) → B q from mid → StandsBetween from mid q)
    → (n : ℕ) (p : Plain NodeKind) (from to : ℕ) → Wraps h K l c A B n p from to → StandsBetween from to p
wraps_stand h K l c A B one other zero p from to fit = one p from to fit
wraps_stand h K l c A B one other (suc n) p from to fit =
    stands_moved from to p (node l from to (cons fit.0 fit.1)) fit.3 (
      omega arith,
      omega arith,
      (fit.2, wraps_stand h K l c A B one other n fit.0 from fit.2 fit.4, other fit.1 fit.2 to fit.6),
    )

module _ {Row NodeKind : Type 0} (h : Reading) (K : List Key) (Below : Row → Plain NodeKind → ℕ → ℕ → Type 0)
    (below_stands : (r : Row) (q : Plain NodeKind) (from mid : ℕ) → Below r q from mid → StandsBetween from mid q) where
  form_stands : (f : Rhs Row) (p : Plain NodeKind) (from to : ℕ) → Fits h K Below f p from to → StandsBetween from to p
  form_stands done p from to fit =
      stands_moved from to p nil fit.0 (let same = fit.1 in omega (arith, same))
  form_stands (tok s may f) p from to fit =
      stands_moved from to p (cons (leaf s from) fit.0) fit.1
      (from + 1, (omega arith, omega arith), form_stands f fit.0 (from + 1) to fit.3)
  form_stands (punct k f) p from to fit =
      stands_moved from to p (mark from fit.0) fit.1 (omega arith, form_stands f fit.0 (from + 1) to fit.3)
  form_stands (row r f) p from to fit =
      stands_moved from to p (cons fit.0 fit.1) fit.3
      (fit.2, below_stands r fit.0 from fit.2 fit.4, form_stands f fit.1 fit.2 to fit.5)
  form_stands (opt c g f) p from to fit =
      stands_moved from to p (cons fit.0 fit.1) fit.3 (
        fit.2,
        elim fit.4 [
          | inl there ↦ form_stands g fit.0 from fit.2 there.1
          | inr absent ↦ stands_moved from fit.2 fit.0 nil absent.1 (let same = absent.2 in omega (arith, same))
        ],
        form_stands f fit.1 fit.2 to fit.5,
      )
  form_stands (many c g f) p from to fit =
      stands_moved from to p (cons fit.0 fit.1) fit.3 (
        fit.2,
        turns_stand h K c (Fits h K Below g)
            (form_stands g) fit.0 from fit.2 fit.4,
        form_stands f fit.1 fit.2 to fit.5,
      )
  form_stands (alt t a b f) p from to fit =
      stands_moved from to p (cons fit.0 fit.1) fit.3 (
        fit.2,
        elim fit.4 [
          | inl one ↦ form_stands a fit.0 from fit.2 one.1
          | inr other ↦ form_stands b fit.0 from fit.2 other.1
        ],
        form_stands f fit.1 fit.2 to fit.5,
      )
  form_stands (when_ t f) p from to fit = form_stands f p from to fit.1
  form_stands (where_ t f) p from to fit = form_stands f p from to fit.1

  rule_stands : (a : Production Row NodeKind) (p : Plain NodeKind) (from to : ℕ) → IsBy h K Below a p from to
      → StandsBetween from to p
  rule_stands refuse p from to by = absurd by
  rule_stands (make l f) p from to by =
      stands_moved from to p (node l from to by.0) by.1 (omega arith, omega arith, form_stands f by.0 from to by.2)
  rule_stands (choose t a b) p from to by = elim by [
    | inl one ↦ rule_stands a p from to one.1
    | inr other ↦ rule_stands b p from to other.1
  ]
  rule_stands (as_ w a) p from to by = stands_moved from to p (via w by.0) by.1 (rule_stands a by.0 from to by.2)
  rule_stands (pick g a b) p from to by = elim by [
    | inl one ↦ rule_stands a p from to one.1
    | inr other ↦ rule_stands b p from to other.1
  ]
  rule_stands (wrap l a c f) p from to by =
      wraps_stand h K l c (IsBy h K Below a) (Fits h K Below f) (rule_stands a) (form_stands f) by.0 p from to by.1

-- a tree of a row
pub row_stands : {Row NodeKind : Type 0} (h : Reading) (K : List Key) (rule : Row → Production Row NodeKind) (room : ℕ)
    (r : Row)
    (p : Plain NodeKind) (from to : ℕ) → Under h K rule room r p from to → StandsBetween from to p
unfolding Under
row_stands h K rule zero r p from to under = absurd under
row_stands h K rule (suc room) r p from to under =
    rule_stands h K (Under h K rule room) (row_stands h K rule room) (rule r) p from to under
