-- Whatever the table, each node of a tree that fits it has parts of a form that its label may have: what is claimed of these
-- forms holds of the parts of each node.
use Rattle.std.specs.Prelude.{List, Bool, true, ◌&&◌}
use Rattle.std.proofs.Common.{◌≡◌, ℕ, zero, suc, ◌+◌, refl, sym, subst, inl, inr}
use Rattle.grammar_theory.specs.Key.{Key}
use Rattle.grammar_theory.specs.Productions.{Predict, Rhs, done, tok, punct, row, opt, many, alt, when_, where_, Production, refuse, make, choose, as_, pick, wrap}
use Rattle.grammar_theory.specs.Plain.{Plain, node, leaf, nil, cons, mark, turn, via}
use Rattle.grammar_theory.specs.Fits.{Reading, Turns, Wraps, Fits, IsBy, Under}
use Rattle.grammar_theory.proofs.Progress.{both_hold}

-- parts of a node, or of a group
abbrev pub IsList : {NodeKind : Type 0} → Plain NodeKind → Type 0
IsList (node l from to ps) = ⊥
IsList (leaf s n) = ⊥
IsList nil = Unit {0}
IsList (cons p ps) = Unit {0}
IsList (mark n ps) = Unit {0}
IsList (turn p ps) = Unit {0}
IsList (via w p) = ⊥

-- the claim holds of the parts of each node, and parts stand where parts are to stand
abbrev pub Formed : {NodeKind : Type 0} → (NodeKind → Plain NodeKind → Type 0) → Plain NodeKind → Type 0
Formed P (node l from to ps) = IsList ps × P l ps × Formed P ps
Formed P (leaf s n) = Unit {0}
Formed P nil = Unit {0}
Formed P (cons p ps) = Formed P p × IsList ps × Formed P ps
Formed P (mark n ps) = IsList ps × Formed P ps
Formed P (turn p ps) = Formed P p × IsList ps × Formed P ps
Formed P (via w p) = Formed P p

abbrev pub FormedParts : {NodeKind : Type 0} → (NodeKind → Plain NodeKind → Type 0) → Plain NodeKind → Type 0
FormedParts P ps = IsList ps × Formed P ps

-- the test holds of the form of each node that the rule makes; a turn behind an operand is one whose first part is a row's
abbrev pub claims : {Row NodeKind : Type 0} → Row → (NodeKind → Rhs Row → Bool) → Production Row NodeKind → Bool
claims r test refuse = true
claims r test (make l f) = test l f
claims r test (choose t a b) = claims r test a && claims r test b
claims r test (as_ w a) = claims r test a
claims r test (pick g a b) = claims r test a && claims r test b
claims r test (wrap l a c f) = claims r test a && test l (row r f)

-- any tree
abbrev pub Any : {Row NodeKind : Type 0} → Row → Plain NodeKind → ℕ → ℕ → Type 0
Any r p from to = Unit {0}

turns_any : {NodeKind : Type 0} (h : Reading) (K : List Key) (c : Predict) (One Other : Plain NodeKind → ℕ → ℕ → Type 0)
    → ((q : Plain NodeKind) (from mid : ℕ) → One q from mid → Other q from mid)
    → (ps : Plain NodeKind) (from to : ℕ) → Turns h K c One ps from to → Turns h K c Other ps from to
turns_any h K c One Other each nil from to fit = fit
turns_any h K c One Other each (turn q ps) from to fit =
    (fit.0, fit.1, each q from fit.0 fit.2, turns_any h K c One Other each ps fit.0 to fit.3)
turns_any h K c One Other each _ from to fit = absurd fit

-- what fits a form fits it with any trees below
fits_any : {Row NodeKind : Type 0} (h : Reading) (K : List Key) (Below : Row → Plain NodeKind → ℕ → ℕ → Type 0)
    (f : Rhs Row)
    (p : Plain NodeKind) (from to : ℕ) → Fits h K Below f p from to → Fits h K Any f p from to
fits_any h K Below done p from to fit = fit
fits_any h K Below (tok s may f) p from to fit = (fit.0, fit.1, fit.2, fits_any h K Below f fit.0 (from + 1) to fit.3)
fits_any h K Below (punct k f) p from to fit = (fit.0, fit.1, fit.2, fits_any h K Below f fit.0 (from + 1) to fit.3)
fits_any h K Below (row r f) p from to fit =
    (fit.0, fit.1, fit.2, fit.3, tt, fits_any h K Below f fit.1 fit.2 to fit.5)
fits_any h K Below (opt c g f) p from to fit = (
  fit.0,
  fit.1,
  fit.2,
  fit.3,
  elim fit.4 [
    | inl there ↦ inl (there.0, fits_any h K Below g fit.0 from fit.2 there.1)
    | inr absent ↦ inr absent
  ],
  fits_any h K Below f fit.1 fit.2 to fit.5,
)
fits_any h K Below (many c g f) p from to fit = (
  fit.0,
  fit.1,
  fit.2,
  fit.3,
  turns_any h K c (Fits h K Below g) (Fits h K Any g) (fits_any h K Below g) fit.0 from fit.2 fit.4,
  fits_any h K Below f fit.1 fit.2 to fit.5,
)
fits_any h K Below (alt t a b f) p from to fit = (
  fit.0,
  fit.1,
  fit.2,
  fit.3,
  elim fit.4 [
    | inl one ↦ inl (one.0, fits_any h K Below a fit.0 from fit.2 one.1)
    | inr other ↦ inr (other.0, fits_any h K Below b fit.0 from fit.2 other.1)
  ],
  fits_any h K Below f fit.1 fit.2 to fit.5,
)
fits_any h K Below (when_ t f) p from to fit = (fit.0, fits_any h K Below f p from to fit.1)
fits_any h K Below (where_ t f) p from to fit = (fit.0, fits_any h K Below f p from to fit.1)

formed_moved : {NodeKind : Type 0} (P : NodeKind → Plain NodeKind → Type 0) (p q : Plain NodeKind) → p ≡ q → Formed P q
    → Formed P p
formed_moved P p q e h = let Q : Plain _ → Type 0 = λ t. Formed P t in subst Q (sym e) h

parts_moved : {NodeKind : Type 0} (P : NodeKind → Plain NodeKind → Type 0) (p q : Plain NodeKind) → p ≡ q
    → FormedParts P q
    → FormedParts P p
parts_moved P p q e h = let Q : Plain _ → Type 0 = λ t. FormedParts P t in subst Q (sym e) h

turns_formed : {NodeKind : Type 0} (h : Reading) (K : List Key) (P : NodeKind → Plain NodeKind → Type 0) (c : Predict)
    (One : Plain NodeKind → ℕ → ℕ → Type 0) → ((q : Plain NodeKind) (from mid : ℕ) → One q from mid → FormedParts P q)
    → (ps : Plain NodeKind) (from to : ℕ) → Turns h K c One ps from to → FormedParts P ps
turns_formed h K P c One each nil from to fit = (tt, tt)
turns_formed h K P c One each (turn q ps) from to fit =
    let more = turns_formed h K P c One each ps fit.0 to fit.3 in
    (tt, ((each q from fit.0 fit.2).1, more.0, more.1))
turns_formed h K P c One each _ from to fit = absurd fit

module _ {Row NodeKind : Type 0} (h : Reading) (K : List Key) (P : NodeKind → Plain NodeKind → Type 0)
    (test : NodeKind → Rhs Row → Bool)
    (test_holds : (l : NodeKind) (f : Rhs Row) (ps : Plain NodeKind) (from to : ℕ) → test l f ≡ true
    → Fits h K Any f ps from to
    → P l ps)
    (Below : Row → Plain NodeKind → ℕ → ℕ → Type 0)
    (below_formed : (r : Row) (q : Plain NodeKind) (from mid : ℕ) → Below r q from mid → Formed P q) where
  form_formed : (f : Rhs Row) (p : Plain NodeKind) (from to : ℕ) → Fits h K Below f p from to → FormedParts P p
  form_formed done p from to fit = parts_moved P p nil fit.0 (tt, tt)
  form_formed (tok s may f) p from to fit =
      parts_moved P p (cons (leaf s from) fit.0) fit.1
      (let more = form_formed f fit.0 (from + 1) to fit.3 in (tt, (tt, more.0, more.1)))
  form_formed (punct k f) p from to fit =
      parts_moved P p (mark from fit.0) fit.1
      (let more = form_formed f fit.0 (from + 1) to fit.3 in (tt, (more.0, more.1)))
  form_formed (row r f) p from to fit =
      parts_moved P p (cons fit.0 fit.1) fit.3
      (let more = form_formed f fit.1 fit.2 to fit.5 in
      (tt, (below_formed r fit.0 from fit.2 fit.4, more.0, more.1)))
  form_formed (opt c g f) p from to fit =
      parts_moved P p (cons fit.0 fit.1) fit.3
      (let more = form_formed f fit.1 fit.2 to fit.5 in
      let this : Formed P fit.0 = elim fit.4 [
        | inl there ↦ (form_formed g fit.0 from fit.2 there.1).1
        | inr absent ↦ formed_moved P fit.0 nil absent.1 tt
      ] in
      (tt, (this, more.0, more.1)))
  form_formed (many c g f) p from to fit =
      parts_moved P p (cons fit.0 fit.1) fit.3
      (let more = form_formed f fit.1 fit.2 to fit.5 in
      let this = turns_formed h K P c (Fits h K Below g) (form_formed g) fit.0 from fit.2 fit.4 in
      (tt, (this.1, more.0, more.1)))
  form_formed (alt t a b f) p from to fit =
      parts_moved P p (cons fit.0 fit.1) fit.3
      (let more = form_formed f fit.1 fit.2 to fit.5 in
      let this : Formed P fit.0 = elim fit.4 [
        | inl one ↦ (form_formed a fit.0 from fit.2 one.1).1
        | inr other ↦ (form_formed b fit.0 from fit.2 other.1).1
      ] in
      (tt, (this, more.0, more.1)))
  form_formed (when_ t f) p from to fit = form_formed f p from to fit.1
  form_formed (where_ t f) p from to fit = form_formed f p from to fit.1

  wraps_formed : (r : Row) (l : NodeKind) (c : Predict) (A : Plain NodeKind → ℕ → ℕ → Type 0) (f : Rhs Row)
      → ((q : Plain NodeKind) (from mid : ℕ) → A q from mid → Formed P q) → test l (row r f) ≡ true
      → (n : ℕ) (p : Plain NodeKind) (from to : ℕ) → Wraps h K l c A (Fits h K Below f) n p from to → Formed P p
  wraps_formed r l c A f one holds zero p from to fit = one p from to fit
  wraps_formed r l c A f one holds (suc n) p from to fit =
      formed_moved P p (node l from to (cons fit.0 fit.1)) fit.3
      (let inner = wraps_formed r l c A f one holds n fit.0 from fit.2 fit.4 in
      let more = form_formed f fit.1 fit.2 to fit.6 in
      let here : P l (cons fit.0 fit.1) = test_holds l (row r f) (cons fit.0 fit.1) from to holds
      (fit.0, fit.1, fit.2, refl, tt, fits_any h K Below f fit.1 fit.2 to fit.6) in
      (tt, here, (inner, more.0, more.1)))

  rule_formed : (r : Row) (a : Production Row NodeKind) → claims r test a ≡ true → (p : Plain NodeKind) (from to : ℕ)
      → IsBy h K Below a p from to → Formed P p
  rule_formed r refuse holds p from to by = absurd by
  rule_formed r (make l f) holds p from to by =
      formed_moved P p (node l from to by.0) by.1
      (let more = form_formed f by.0 from to by.2 in
      (more.0, test_holds l f by.0 from to holds (fits_any h K Below f by.0 from to by.2), more.1))
  rule_formed r (choose t a b) holds p from to by =
      let both = both_hold (claims r test a) (claims r test b) holds in
      elim by [
        | inl one ↦ rule_formed r a both.0 p from to one.1
        | inr other ↦ rule_formed r b both.1 p from to other.1
      ]
  rule_formed r (as_ w a) holds p from to by =
      formed_moved P p (via w by.0) by.1 (rule_formed r a holds by.0 from to by.2)
  rule_formed r (pick g a b) holds p from to by =
      let both = both_hold (claims r test a) (claims r test b) holds in
      elim by [
        | inl one ↦ rule_formed r a both.0 p from to one.1
        | inr other ↦ rule_formed r b both.1 p from to other.1
      ]
  rule_formed r (wrap l a c f) holds p from to by =
      let both = both_hold (claims r test a) (test l (row r f)) holds in
      wraps_formed r l c (IsBy h K Below a) f (rule_formed r a both.0) both.1 by.0 p from to by.1

-- each node of a tree of a row
pub row_formed : {Row NodeKind : Type 0} (h : Reading) (K : List Key) (P : NodeKind → Plain NodeKind → Type 0)
    (test : NodeKind → Rhs Row → Bool)
    → ((l : NodeKind) (f : Rhs Row) (ps : Plain NodeKind) (from to : ℕ) → test l f ≡ true → Fits h K Any f ps from to
    → P l ps)
    → (rule : Row → Production Row NodeKind) → ((r : Row) → claims r test (rule r) ≡ true)
    → (room : ℕ) (r : Row) (p : Plain NodeKind) (from to : ℕ) → Under h K rule room r p from to → Formed P p
unfolding Under
row_formed h K P test holds rule claimed zero r p from to under = absurd under
row_formed h K P test holds rule claimed (suc room) r p from to under =
    rule_formed h K P test holds (Under h K rule room) (row_formed h K P test holds rule claimed room) r (rule r)
    (claimed r)
    p from to under
