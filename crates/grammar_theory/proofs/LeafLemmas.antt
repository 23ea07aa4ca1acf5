-- What holds of each token that the rows keep holds of each leaf of a tree.
use Rattle.std.specs.Prelude.{List, true}
use Rattle.std.proofs.Common.{◌≡◌, ℕ, zero, suc, ◌+◌, subst, sym, inl, inr}
use Rattle.grammar_theory.specs.Key.{Key, seen, has_kind}
use Rattle.grammar_theory.specs.Productions.{LeafKind, Predict, Rhs, done, tok, punct, row, opt, many, alt, when_, where_, Production, refuse, make, choose, as_, pick, wrap}
use Rattle.grammar_theory.specs.Plain.{Plain, node, leaf, nil, cons, mark, turn, via}
use Rattle.grammar_theory.specs.Fits.{Reading, Turns, Wraps, Fits, IsBy, Under}

-- the claim holds of each leaf
abbrev pub EachLeaf : {NodeKind : Type 0} → (LeafKind → ℕ → Type 0) → Plain NodeKind → Type 0
EachLeaf P (node l from to ps) = EachLeaf P ps
EachLeaf P (leaf s n) = P s n
EachLeaf P nil = Unit {0}
EachLeaf P (cons p ps) = EachLeaf P p × EachLeaf P ps
EachLeaf P (mark n ps) = EachLeaf P ps
EachLeaf P (turn p ps) = EachLeaf P p × EachLeaf P ps
EachLeaf P (via w p) = EachLeaf P p

-- the claim holds of each token that the form keeps
abbrev pub Keeps : {Row : Type 0} → List Key → (LeafKind → ℕ → Type 0) → Rhs Row → Type 0
Keeps K P done = Unit {0}
Keeps K P (tok s may f) = ((at : ℕ) → has_kind may (seen K at) ≡ true → P s at) × Keeps K P f
Keeps K P (punct k f) = Keeps K P f
Keeps K P (row r f) = Keeps K P f
Keeps K P (opt c g f) = Keeps K P g × Keeps K P f
Keeps K P (many c g f) = Keeps K P g × Keeps K P f
Keeps K P (alt t a b f) = Keeps K P a × Keeps K P b × Keeps K P f
Keeps K P (when_ t f) = Keeps K P f
Keeps K P (where_ t f) = Keeps K P f

-- the claim holds of each token that the rule keeps
abbrev pub RuleKeeps : {Row NodeKind : Type 0} → List Key → (LeafKind → ℕ → Type 0) → Production Row NodeKind → Type 0
RuleKeeps K P refuse = Unit {0}
RuleKeeps K P (make l f) = Keeps K P f
RuleKeeps K P (choose t a b) = RuleKeeps K P a × RuleKeeps K P b
RuleKeeps K P (as_ w a) = RuleKeeps K P a
RuleKeeps K P (pick g a b) = RuleKeeps K P a × RuleKeeps K P b
RuleKeeps K P (wrap l a c f) = RuleKeeps K P a × Keeps K P f

leaves_moved : {NodeKind : Type 0} (P : LeafKind → ℕ → Type 0) (p q : Plain NodeKind) → p ≡ q → EachLeaf P q
    → EachLeaf P p
leaves_moved P p q e h = let Q : Plain _ → Type 0 = λ t. EachLeaf P t in subst Q (sym e) h

turns_leaves : {NodeKind : Type 0} (h : Reading) (K : List Key) (P : LeafKind → ℕ → Type 0) (c : Predict)
    (One : Plain NodeKind → ℕ → ℕ → Type 0) → ((q : Plain NodeKind) (from mid : ℕ) → One q from mid → EachLeaf P q)
    → (ps : Plain NodeKind) (from to : ℕ) → Turns h K c One ps from to → EachLeaf P ps
turns_leaves h K P c One each nil from to fit = tt
turns_leaves h K P c One each (turn q ps) from to fit =
    (each q from fit.0 fit.2, turns_leaves h K P c One each ps fit.0 to fit.3)
turns_leaves h K P c One each _ from to fit = absurd fit

wraps_leaves : {NodeKind : Type 0} (h : Reading) (K : List Key) (P : LeafKind → ℕ → Type 0) (l : NodeKind) (c : Predict)
    (A B : Plain NodeKind → ℕ → ℕ → Type 0) → ((q : Plain NodeKind) (from mid : ℕ) → A q from mid → EachLeaf P q)
    → ((q : Plain NodeKind) (from mid : ℕ) → B q from mid → EachLeaf P q)
    → (n : ℕ) (p : Plain NodeKind) (from to : ℕ) → Wraps h K l c A B n p from to → EachLeaf P p
wraps_leaves h K P l c A B one other zero p from to fit = one p from to fit
wraps_leaves h K P l c A B one other (suc n) p from to fit =
    leaves_moved P p (node l from to (cons fit.0 fit.1)) fit.3
    (wraps_leaves h K P l c A B one other n fit.0 from fit.2 fit.4, other fit.1 fit.2 to fit.6)

module _ {Row NodeKind : Type 0} (h : Reading) (K : List Key) (P : LeafKind → ℕ → Type 0)
    (Below : Row → Plain NodeKind → ℕ → ℕ → Type 0)
    (below_leaves : (r : Row) (q : Plain NodeKind) (from mid : ℕ) → Below r q from mid → EachLeaf P q) where
  form_leaves : (f : Rhs Row) → Keeps K P f → (p : Plain NodeKind) (from to : ℕ) → Fits h K Below f p from to
      → EachLeaf P p
  form_leaves done keeps p from to fit = leaves_moved P p nil fit.0 tt
  form_leaves (tok s may f) keeps p from to fit =
      leaves_moved P p (cons (leaf s from) fit.0) fit.1
      (keeps.0 from fit.2, form_leaves f keeps.1 fit.0 (from + 1) to fit.3)
  form_leaves (punct k f) keeps p from to fit =
      leaves_moved P p (mark from fit.0) fit.1 (form_leaves f keeps fit.0 (from + 1) to fit.3)
  form_leaves (row r f) keeps p from to fit =
      leaves_moved P p (cons fit.0 fit.1) fit.3
      (below_leaves r fit.0 from fit.2 fit.4, form_leaves f keeps fit.1 fit.2 to fit.5)
  form_leaves (opt c g f) keeps p from to fit =
      leaves_moved P p (cons fit.0 fit.1) fit.3 (
        elim fit.4 [
          | inl there ↦ form_leaves g keeps.0 fit.0 from fit.2 there.1
          | inr absent ↦ leaves_moved P fit.0 nil absent.1 tt
        ],
        form_leaves f keeps.1 fit.1 fit.2 to fit.5,
      )
  form_leaves (many c g f) keeps p from to fit =
      leaves_moved P p (cons fit.0 fit.1) fit.3 (
        turns_leaves h K P c (Fits h K Below g) (form_leaves g keeps.0) fit.0 from fit.2 fit.4,
        form_leaves f keeps.1 fit.1 fit.2 to fit.5,
      )
  form_leaves (alt t a b f) keeps p from to fit =
      leaves_moved P p (cons fit.0 fit.1) fit.3 (
        elim fit.4 [
          | inl one ↦ form_leaves a keeps.0 fit.0 from fit.2 one.1
          | inr other ↦ form_leaves b keeps.1 fit.0 from fit.2 other.1
        ],
        form_leaves f keeps.2 fit.1 fit.2 to fit.5,
      )
  form_leaves (when_ t f) keeps p from to fit = form_leaves f keeps p from to fit.1
  form_leaves (where_ t f) keeps p from to fit = form_leaves f keeps p from to fit.1

  rule_leaves : (a : Production Row NodeKind) → RuleKeeps K P a → (p : Plain NodeKind) (from to : ℕ)
      → IsBy h K Below a p from to
      → EachLeaf P p
  rule_leaves refuse keeps p from to by = absurd by
  rule_leaves (make l f) keeps p from to by =
      leaves_moved P p (node l from to by.0) by.1 (form_leaves f keeps by.0 from to by.2)
  rule_leaves (choose t a b) keeps p from to by = elim by [
    | inl one ↦ rule_leaves a keeps.0 p from to one.1
    | inr other ↦ rule_leaves b keeps.1 p from to other.1
  ]
  rule_leaves (as_ w a) keeps p from to by = leaves_moved P p (via w by.0) by.1 (rule_leaves a keeps by.0 from to by.2)
  rule_leaves (pick g a b) keeps p from to by = elim by [
    | inl one ↦ rule_leaves a keeps.0 p from to one.1
    | inr other ↦ rule_leaves b keeps.1 p from to other.1
  ]
  rule_leaves (wrap l a c f) keeps p from to by =
      wraps_leaves h K P l c (IsBy h K Below a) (Fits h K Below f) (rule_leaves a keeps.0) (form_leaves f keeps.1) by.0
      p from to by.1

-- the leaves of a tree of a row
pub row_leaves : {Row NodeKind : Type 0} (h : Reading) (K : List Key) (P : LeafKind → ℕ → Type 0)
    (rule : Row → Production Row NodeKind)
    → ((r : Row) → RuleKeeps K P (rule r)) → (room : ℕ) (r : Row) (p : Plain NodeKind) (from to : ℕ)
    → Under h K rule room r p from to → EachLeaf P p
unfolding Under
row_leaves h K P rule keeps zero r p from to under = absurd under
row_leaves h K P rule keeps (suc room) r p from to under =
    rule_leaves h K P (Under h K rule room) (row_leaves h K P rule keeps room) (rule r) (keeps r) p from to under
