-- What the parts of a form are, where it covers what is asked of them; and what each tree of a row may be read as.
use Rattle.std.specs.Prelude.{List, [], ◌∷◌, map, leb, ◌-◌, Bool, true, false, not, ◌&&◌, ◌||◌, Option, Some, None, option_map, slice_get}
use Rattle.std.proofs.lemmas.Bool.{leb-true}
use Rattle.std.proofs.Common.{◌≡◌, ◌≤◌, ℕ, zero, suc, ◌+◌, refl, sym, ap, subst, inl, inr, arith, ◌∙◌, ◌⊎◌}
use Rattle.es_token.specs.declared.token.Token.{Token}
use Rattle.es_token.specs.declared.token.TokenKind.{TokenKind}
use Rattle.grammar_theory.specs.Key.{TokenTest, Seen, seen, keys_of, has_kind, same_kind}
use Rattle.grammar_theory.specs.Productions.{LeafKind, Predict, by_lookahead, greedy, by_predicate, Rhs, done, tok, punct, row, opt, many, alt, when_, where_}
use Rattle.grammar_theory.specs.Plain.{Plain, leaf, nil, cons, mark, turn, made}
use Rattle.grammar_theory.specs.Fits.{Reading, Present, Turns, Fits}
use Rattle.grammar_theory.proofs.Progress.{both_hold}
use Rattle.grammar_theory.proofs.OutLemmas.{clash}
use Rattle.grammar_theory.proofs.EachKind.{holds_of_each}
use Rattle.es_lookahead.proofs.TokenLemmas.{token_seen, seen-keys_of}
use Rattle.es_grammar.specs.declared.rows.Row.{Row}
use Rattle.es_grammar.specs.declared.rows.NodeKind.{NodeKind}
use Rattle.es_grammar.specs.declared.cst.tree.Cst.{Cst}
use Rattle.es_grammar.specs.cst.Slim.{parts_in, slim, tree_of}
use Rattle.es_lowering.specs.Value.{Typed, Value, given, part, as_group, first_of, behind}
use Rattle.es_lowering.specs.Value.{absent as no_part, nil as no_more, more, token, node as made_node}
use Rattle.es_lowering.specs.Texts.{ident_of, token_of, own_name_of}
use Rattle.es_lowering.specs.Operators.{listed, arithmetic_ops, logical_ops, assign_ops, greater_op, greater_assign, or_else, binary_of, assign_of, is_kind_at, binary_between, assign_between}
use Rattle.es_token.specs.declared.token.TokenKind.TheVariants as k
use Rattle.es_lowering.specs.Lowering.{packed, value_of}
use Rattle.es_lowering.proofs.Equations.{value_leaf, value_parts}
use Rattle.es_law_programs.proofs.total.Uses.{Use, IsThere, HasAt}
use Rattle.es_law_programs.proofs.total.Words.{there_of, if_there, rest_true, not_both, kind_there}
use Rattle.es_law_programs.proofs.total.Needs.{Needs, rest, never, any, of, leaf as a_leaf, word, name, maybe, hollow, list, group_of, either_of, or_one, binary, assign, HasKind, MayMeet, EachTurn, IsAlone, Meets, only_such, never_holds, is_bare, is_single, are_tokens, least, most, is_binary, is_assign, is_greater, begins_with, spells_binary, spells_assign, goes_on, is_closed, closes, told, stands_once, Shown, IfClosed, Closes, StandsOnce, or_asks, covers}

-- ---- tests
pub either_holds : (a b : Bool) → a || b ≡ true → (a ≡ true) ⊎ (b ≡ true)
either_holds true b e = inl refl
either_holds false b e = inr e

pub both_true : (a b : Bool) → a ≡ true → b ≡ true → a && b ≡ true
both_true true b e f = f
both_true false b e f = clash e

implied : (a b : Bool) → (not a || b) ≡ true → a ≡ true → b ≡ true
implied true b e h = e
implied false b e h = clash h

never_both : (a b : Bool) → not (a && b) ≡ true → a ≡ true → b ≡ true → ⊥
never_both true true e f g = clash e
never_both true false e f g = clash g
never_both false b e f g = clash f

pub never_true : (a : Bool) → not a ≡ true → a ≡ true → ⊥
never_true true e f = clash e
never_true false e f = clash f

-- where the parts aren't told to be such, the test never holds
when_asked : {X : Type 0} (holds : Bool) (t : TokenTest) (x : Option Seen) → or_asks holds (λ b. never_holds t) ≡ true
    → (holds ≡ true → X) → t x ≡ true → X
when_asked true t x e next h = next refl
when_asked false t x e next h = absurd (never_true (t x) (holds_of_each (λ x. not (t x)) e x) h)

such : (may want : TokenKind → Bool) (x : Option Seen) → only_such may want ≡ true → has_kind may x ≡ true
    → has_kind want x ≡ true
such may want x e h =
    implied (has_kind may x) (has_kind want x) (holds_of_each (λ x. not (has_kind may x) || has_kind want x) e x) h

-- ---- operators
greater_there : (n : ℕ) (equal : Bool) → 1 ≤ n → n ≤ 3 → IsThere (greater_op n equal)
unfolding greater_op
greater_there n true low high = tt
greater_there zero false low high = absurd (omega (arith, low))
greater_there (suc zero) false low high = tt
greater_there (suc (suc zero)) false low high = tt
greater_there (suc (suc (suc zero))) false low high = tt
greater_there (suc (suc (suc (suc n)))) false low high = absurd (omega (arith, high))

greater_assign_there : (n : ℕ) → 3 ≤ n → n ≤ 4 → IsThere (greater_assign n)
unfolding greater_assign
greater_assign_there zero low high = absurd (omega (arith, low))
greater_assign_there (suc zero) low high = absurd (omega (arith, low))
greater_assign_there (suc (suc zero)) low high = absurd (omega (arith, low))
greater_assign_there (suc (suc (suc zero))) low high = tt
greater_assign_there (suc (suc (suc (suc zero)))) low high = tt
greater_assign_there (suc (suc (suc (suc (suc n))))) low high = absurd (omega (arith, high))

module _ (ts : List Token) where
  binary_kind : (kind : TokenKind) (from to : ℕ) → is_greater kind || is_binary kind ≡ true → from + 1 ≤ to
      → to ≤ from + 3 → IsThere (binary_of ts kind from to)
  unfolding binary_of
  binary_kind kind from to e low high =
      if_there (same_kind kind k.Greater) _ _
      (λ e. greater_there (to - from) (is_kind_at ts k.Equal (to - 1)) (omega (arith, low)) (omega (arith, low, high)))
      (λ other. there_of (or_else (listed arithmetic_ops kind) (listed logical_ops kind))
      (rest_true (is_greater kind) (is_binary kind) e other))

  assign_run : (kind : TokenKind) (from to : ℕ)
      → (not (is_greater kind) && is_assign kind ≡ true)
      ⊎ ((is_greater kind ≡ true) × (from + 3 ≤ to) × (to ≤ from + 4))
      → is_greater kind ≡ true → IsThere (greater_assign (to - from))
  assign_run kind from to (inl e) run =
      absurd (never_true (is_greater kind) (both_hold (not (is_greater kind)) (is_assign kind) e).0 run)
  assign_run kind from to (inr e) run =
      let low : from + 3 ≤ to = e.1 in
      let high : to ≤ from + 4 = e.2 in
      greater_assign_there (to - from) (omega (arith, low)) (omega (arith, low, high))

  assign_one : (kind : TokenKind) (from to : ℕ)
      → (not (is_greater kind) && is_assign kind ≡ true)
      ⊎ ((is_greater kind ≡ true) × (from + 3 ≤ to) × (to ≤ from + 4))
      → is_greater kind ≡ false → IsThere (listed assign_ops kind)
  assign_one kind from to (inl e) one =
      there_of (listed assign_ops kind) (both_hold (not (is_greater kind)) (is_assign kind) e).1
  assign_one kind from to (inr e) one = not_both (is_greater kind) e.0 one

  assign_kind : (kind : TokenKind) (from to : ℕ)
      → (not (is_greater kind) && is_assign kind ≡ true)
      ⊎ ((is_greater kind ≡ true) × (from + 3 ≤ to) × (to ≤ from + 4))
      → IsThere (assign_of kind from to)
  unfolding assign_of
  assign_kind kind from to e =
      if_there (same_kind kind k.Greater) _ _ (assign_run kind from to e) (assign_one kind from to e)

  -- ---- tokens
  kinded : (may : TokenKind → Bool) (o : Option Token) → has_kind may (token_seen o) ≡ true → HasKind may o
  kinded may (Some t) e = e
  kinded may None e = clash e

  pub has_token : (may : TokenKind → Bool) (at : ℕ) → has_kind may (seen (keys_of ts) at) ≡ true
      → HasKind may (slice_get ts at)
  has_token may at e = kinded may (slice_get ts at) (rw (seen-keys_of ts at) at e)

  binary_found : (o : Option Token) (from to : ℕ) → HasKind (λ kind. is_greater kind || is_binary kind) o
      → from + 1 ≤ to → to ≤ from + 3
      → IsThere (given (option_map (λ (t : Token). t.kind) o) (λ kind. binary_of ts kind from to))
  binary_found (Some t) from to e low high = binary_kind t.kind from to e low high
  binary_found None from to e low high = absurd e

  pub binary_at : (from to : ℕ) → HasKind (λ kind. is_greater kind || is_binary kind) (slice_get ts from)
      → from + 1 ≤ to → to ≤ from + 3 → IsThere (binary_between ts from to)
  binary_at from to e low high = binary_found (slice_get ts from) from to e low high

  assign_found : (o : Option Token) (from to : ℕ)
      → HasKind (λ kind. not (is_greater kind) && is_assign kind) o
      ⊎ (HasKind is_greater o × (from + 3 ≤ to) × (to ≤ from + 4))
      → IsThere (given (option_map (λ (t : Token). t.kind) o) (λ kind. assign_of kind from to))
  assign_found (Some t) from to e = assign_kind t.kind from to e
  assign_found None from to (inl e) = absurd e
  assign_found None from to (inr e) = absurd e.0

  pub assign_at : (from to : ℕ)
      → HasKind (λ kind. not (is_greater kind) && is_assign kind) (slice_get ts from)
      ⊎ (HasKind is_greater (slice_get ts from) × (from + 3 ≤ to) × (to ≤ from + 4))
      → IsThere (assign_between ts from to)
  assign_at from to e = assign_found (slice_get ts from) from to e

-- ---- values
as_group_packed : (vs : List Value) → as_group (packed vs) ≡ packed vs
as_group_packed [] = refl
as_group_packed (v ∷ vs) = refl

-- the parts that are kept
abbrev pub parts_of : Plain NodeKind → List Cst
parts_of p = parts_in (made slim p)

-- a node from one place to another
abbrev pub IsNode : Value → ℕ → ℕ → Type 0
IsNode v from to = (m : Typed) × (v ≡ made_node from to m)

node_first : (v : Value) (from to : ℕ) → IsNode v from to → first_of v ≡ from
node_first v from to n = ap first_of n.1

node_behind : (v : Value) (from to : ℕ) → IsNode v from to → behind v ≡ to
node_behind v from to n = ap behind n.1

may_meet : (M : Value → Type 0) (vs : List Value) → M (packed vs) → MayMeet M (packed vs)
may_meet M [] h = tt
may_meet M (v ∷ vs) h = h

module _ (x : List ℕ) (ts : List Token) where
  -- what a plain tree becomes, and what its parts become
  abbrev pub value : Plain NodeKind → Value
  value p = value_of x ts (tree_of p)

  abbrev pub values : Plain NodeKind → Value
  values p = packed (map (value_of x ts) (parts_of p))

  value_moved : (P : Value → Type 0) (v w : Value) → v ≡ w → P w → P v
  value_moved P v w e h = subst P (sym e) h

  -- ---- lists of parts are groups
  grouped_moved : (p q : Plain NodeKind) → p ≡ q → value q ≡ values q → value p ≡ values p
  grouped_moved p q e h = let P : Plain NodeKind → Type 0 = λ t. value t ≡ values t in subst P (sym e) h

  turns_grouped : (h : Reading) (c : Predict) (One : Plain NodeKind → ℕ → ℕ → Type 0) (p : Plain NodeKind) (from to : ℕ)
      → Turns h (keys_of ts) c One p from to → value p ≡ values p
  unfolding made
  turns_grouped h c One nil from to fit = value_parts x ts []
  turns_grouped h c One (turn q ps) from to fit = value_parts x ts (tree_of q ∷ parts_of ps)
  turns_grouped h c One _ from to fit = absurd fit

  module _ (h : Reading) (Below : Row → Plain NodeKind → ℕ → ℕ → Type 0) where
    form_grouped : (f : Rhs Row) (p : Plain NodeKind) (from to : ℕ) → Fits h (keys_of ts) Below f p from to
        → value p ≡ values p
    unfolding made
    form_grouped done p from to fit = grouped_moved p nil fit.0 (value_parts x ts [])
    form_grouped (tok s may f) p from to fit =
        grouped_moved p (cons (leaf s from) fit.0) fit.1 (value_parts x ts (tree_of (leaf s from) ∷ parts_of fit.0))
    form_grouped (punct kind f) p from to fit =
        grouped_moved p (mark from fit.0) fit.1 (form_grouped f fit.0 (from + 1) to fit.3)
    form_grouped (row r f) p from to fit =
        grouped_moved p (cons fit.0 fit.1) fit.3 (value_parts x ts (tree_of fit.0 ∷ parts_of fit.1))
    form_grouped (opt c g f) p from to fit =
        grouped_moved p (cons fit.0 fit.1) fit.3 (value_parts x ts (tree_of fit.0 ∷ parts_of fit.1))
    form_grouped (many c g f) p from to fit =
        grouped_moved p (cons fit.0 fit.1) fit.3 (value_parts x ts (tree_of fit.0 ∷ parts_of fit.1))
    form_grouped (alt t a b f) p from to fit =
        grouped_moved p (cons fit.0 fit.1) fit.3 (value_parts x ts (tree_of fit.0 ∷ parts_of fit.1))
    form_grouped (when_ t f) p from to fit = form_grouped f p from to fit.1
    form_grouped (where_ t f) p from to fit = form_grouped f p from to fit.1

    nil_grouped : (p : Plain NodeKind) → p ≡ nil → value p ≡ no_more
    unfolding made
    nil_grouped p e = grouped_moved p nil e (value_parts x ts []) ∙ ap values e

    -- ---- forms without parts, and with one
    bare_values : (f : Rhs Row) → is_bare f ≡ true → (p : Plain NodeKind) (from to : ℕ)
        → Fits h (keys_of ts) Below f p from to → values p ≡ no_more
    unfolding made
    bare_values done e p from to fit = ap values fit.0
    bare_values (punct kind f) e p from to fit = ap values fit.1 ∙ bare_values f e fit.0 (from + 1) to fit.3
    bare_values (when_ t f) e p from to fit = bare_values f e p from to fit.1
    bare_values (where_ t f) e p from to fit = bare_values f e p from to fit.1
    bare_values (tok s may f) e p from to fit = clash e
    bare_values (row r f) e p from to fit = clash e
    bare_values (opt c g f) e p from to fit = clash e
    bare_values (many c g f) e p from to fit = clash e
    bare_values (alt t a b f) e p from to fit = clash e

    alone : (p q ps : Plain NodeKind) → p ≡ cons q ps → values ps ≡ no_more → IsAlone (values p)
    unfolding made
    alone p q ps e bare =
        let P : Plain NodeKind → Type 0 = λ t. IsAlone (values t) in
        let Q : Value → Type 0 = λ v. IsAlone (more (value q) v) in
        let one : IsAlone (values (cons q ps)) = subst Q (sym bare) tt in
        subst P (sym e) one

    single_alone : (f : Rhs Row) → is_single f ≡ true → (p : Plain NodeKind) (from to : ℕ)
        → Fits h (keys_of ts) Below f p from to → IsAlone (values p)
    unfolding made
    single_alone done e p from to fit = clash e
    single_alone (tok s may f) e p from to fit =
        alone p (leaf s from) fit.0 fit.1 (bare_values f e fit.0 (from + 1) to fit.3)
    single_alone (punct kind f) e p from to fit =
        let P : Plain NodeKind → Type 0 = λ t. IsAlone (values t) in
        subst P (sym fit.1) (single_alone f e fit.0 (from + 1) to fit.3)
    single_alone (row r f) e p from to fit = alone p fit.0 fit.1 fit.3 (bare_values f e fit.1 fit.2 to fit.5)
    single_alone (opt c g f) e p from to fit = alone p fit.0 fit.1 fit.3 (bare_values f e fit.1 fit.2 to fit.5)
    single_alone (many c g f) e p from to fit = alone p fit.0 fit.1 fit.3 (bare_values f e fit.1 fit.2 to fit.5)
    single_alone (alt t a b f) e p from to fit = alone p fit.0 fit.1 fit.3 (bare_values f e fit.1 fit.2 to fit.5)
    single_alone (when_ t f) e p from to fit = single_alone f e p from to fit.1
    single_alone (where_ t f) e p from to fit = single_alone f e p from to fit.1

    -- ---- what stands before and behind a form
    closed_stays : (f : Rhs Row) → is_closed f ≡ true → (p : Plain NodeKind) (from to : ℕ)
        → Fits h (keys_of ts) Below f p from to → from ≡ to
    closed_stays done e p from to fit = fit.1
    closed_stays (when_ t f) e p from to fit = closed_stays f e p from to fit.1
    closed_stays (where_ t f) e p from to fit = closed_stays f e p from to fit.1
    closed_stays (tok s may f) e p from to fit = clash e
    closed_stays (punct kind f) e p from to fit = clash e
    closed_stays (row r f) e p from to fit = clash e
    closed_stays (opt c g f) e p from to fit = clash e
    closed_stays (many c g f) e p from to fit = clash e
    closed_stays (alt t a b f) e p from to fit = clash e

    unless_closed : (b c : Bool) → (b ≡ true → c ≡ true) → not b || c ≡ true
    unless_closed true c e = e refl
    unless_closed false c e = refl

    form_closes : (f : Rhs Row) (p : Plain NodeKind) (from to : ℕ) → Fits h (keys_of ts) Below f p from to
        → closes f (seen (keys_of ts) to) ≡ true
    form_closes done p from to fit = refl
    form_closes (tok s may f) p from to fit = form_closes f fit.0 (from + 1) to fit.3
    form_closes (punct kind f) p from to fit = form_closes f fit.0 (from + 1) to fit.3
    form_closes (row r f) p from to fit = form_closes f fit.1 fit.2 to fit.5
    form_closes (opt c g f) p from to fit = form_closes f fit.1 fit.2 to fit.5
    form_closes (many c g f) p from to fit = form_closes f fit.1 fit.2 to fit.5
    form_closes (alt t a b f) p from to fit = form_closes f fit.1 fit.2 to fit.5
    form_closes (when_ t f) p from to fit =
        both_true (not (is_closed f) || t (seen (keys_of ts) to)) (closes f (seen (keys_of ts) to))
        (unless_closed (is_closed f) (t (seen (keys_of ts) to)) (λ e.
        let P : ℕ → Type 0 = λ n. t (seen (keys_of ts) n) ≡ true in
        subst P (closed_stays f e p from to fit.1) fit.0))
        (form_closes f p from to fit.1)
    form_closes (where_ t f) p from to fit = form_closes f p from to fit.1

    -- no turn stands behind a turn
    pub no_more_turns : (c : Predict) (f : Rhs Row) → stands_once c f ≡ true → (p : Plain NodeKind) (from mid : ℕ)
        → Fits h (keys_of ts) Below f p from mid → told c (seen (keys_of ts) mid) ≡ true → ⊥
    no_more_turns c f once p from mid one other =
        never_both (told c (seen (keys_of ts) mid)) (closes f (seen (keys_of ts) mid))
        (holds_of_each (λ x. not (told c x && closes f x)) once (seen (keys_of ts) mid)) other
        (form_closes f p from mid one)

    -- the same by predicates
    if_closed : (b c : Bool) → (b ≡ true → c ≡ true) → IfClosed b c
    if_closed true c e = e refl
    if_closed false c e = tt

    form_ends : (f : Rhs Row) (p : Plain NodeKind) (from to : ℕ) → Fits h (keys_of ts) Below f p from to
        → Closes f (keys_of ts) to
    form_ends done p from to fit = tt
    form_ends (tok s may f) p from to fit = form_ends f fit.0 (from + 1) to fit.3
    form_ends (punct kind f) p from to fit = form_ends f fit.0 (from + 1) to fit.3
    form_ends (row r f) p from to fit = form_ends f fit.1 fit.2 to fit.5
    form_ends (opt c g f) p from to fit = form_ends f fit.1 fit.2 to fit.5
    form_ends (many c g f) p from to fit = form_ends f fit.1 fit.2 to fit.5
    form_ends (alt t a b f) p from to fit = form_ends f fit.1 fit.2 to fit.5
    form_ends (when_ t f) p from to fit = form_ends f p from to fit.1
    form_ends (where_ t f) p from to fit = (
      if_closed (is_closed f) (t (keys_of ts) to) (λ e.
          let P : ℕ → Type 0 = λ n. t (keys_of ts) n ≡ true in
          subst P (closed_stays f e p from to fit.1) fit.0),
      form_ends f p from to fit.1,
    )

    shown : (c : Predict) (at : ℕ) → Present h c (keys_of ts) at → Shown c (keys_of ts) at
    shown (by_lookahead t) at next = tt
    shown (greedy t) at next = tt
    shown (by_predicate g) at next = next

    pub no_second_turn : (c : Predict) (f : Rhs Row) → StandsOnce c f → (p : Plain NodeKind) (from mid : ℕ)
        → Fits h (keys_of ts) Below f p from mid → Present h c (keys_of ts) mid → ⊥
    no_second_turn c f once p from mid one next =
        once (keys_of ts) mid (shown c mid next) (form_ends f p from mid one)

    -- ---- operators
    width : (f : Rhs Row) → are_tokens f ≡ true → (p : Plain NodeKind) (from to : ℕ)
        → Fits h (keys_of ts) Below f p from to → (from + least f ≤ to) × (to ≤ from + most f)
    width done e p from to fit = let same : from ≡ to = fit.1 in (omega (arith, same), omega (arith, same))
    width (tok s may f) e p from to fit =
        let next = width f e fit.0 (from + 1) to fit.3 in
        let low : from + 1 + least f ≤ to = next.0 in
        let high : to ≤ from + 1 + most f = next.1 in
        (omega (arith, low), omega (arith, high))
    width (opt c g f) e p from to fit =
        let both = both_hold (are_tokens g) (are_tokens f) e in
        let next = width f both.1 fit.1 fit.2 to fit.5 in
        let low : fit.2 + least f ≤ to = next.0 in
        let high : to ≤ fit.2 + most f = next.1 in
        let here : (from ≤ fit.2) × (fit.2 ≤ from + most g) = elim fit.4 [
          | inl there ↦ (let inner = width g both.0 fit.0 from fit.2 there.1 in
              let low : from + least g ≤ fit.2 = inner.0 in
              let high : fit.2 ≤ from + most g = inner.1 in (omega (arith, low), omega (arith, high)))
          | inr absent ↦ (let same : from ≡ fit.2 = absent.2 in (omega (arith, same), omega (arith, same)))
        ] in
        let near : from ≤ fit.2 = here.0 in
        let far : fit.2 ≤ from + most g = here.1 in
        (omega (arith, low, near), omega (arith, high, far))
    width (punct kind f) e p from to fit = clash e
    width (row r f) e p from to fit = clash e
    width (many c g f) e p from to fit = clash e
    width (alt t a b f) e p from to fit = clash e
    width (when_ t f) e p from to fit = clash e
    width (where_ t f) e p from to fit = clash e

    begins : (want : TokenKind → Bool) (f : Rhs Row) → begins_with want f ≡ true → (p : Plain NodeKind) (from to : ℕ)
        → Fits h (keys_of ts) Below f p from to → HasKind want (slice_get ts from)
    begins want (tok s may f) e p from to fit =
        has_token ts want from (such may want (seen (keys_of ts) from) e fit.2)
    begins want done e p from to fit = clash e
    begins want (punct kind f) e p from to fit = clash e
    begins want (row r f) e p from to fit = clash e
    begins want (opt c g f) e p from to fit = clash e
    begins want (many c g f) e p from to fit = clash e
    begins want (alt t a b f) e p from to fit = clash e
    begins want (when_ t f) e p from to fit = clash e
    begins want (where_ t f) e p from to fit = clash e

    spelled_binary : (f : Rhs Row) → spells_binary f ≡ true → (p : Plain NodeKind) (from to : ℕ)
        → Fits h (keys_of ts) Below f p from to → IsThere (binary_between ts from to)
    spelled_binary f e p from to fit =
        let one = both_hold (begins_with (λ kind. is_greater kind || is_binary kind) f)
        (are_tokens f && (leb 1 (least f) && leb (most f) 3)) e in
        let two = both_hold (are_tokens f) (leb 1 (least f) && leb (most f) 3) one.1 in
        let three = both_hold (leb 1 (least f)) (leb (most f) 3) two.1 in
        let size = width f two.0 p from to fit in
        let low : from + least f ≤ to = size.0 in
        let high : to ≤ from + most f = size.1 in
        let some : 1 ≤ least f = leb-true 1 (least f) three.0 in
        let few : most f ≤ 3 = leb-true (most f) 3 three.1 in
        binary_at ts from to (begins (λ kind. is_greater kind || is_binary kind) f one.0 p from to fit)
        (omega (arith, low, some)) (omega (arith, high, few))

    spelled_assign : (f : Rhs Row) → spells_assign f ≡ true → (p : Plain NodeKind) (from to : ℕ)
        → Fits h (keys_of ts) Below f p from to → IsThere (assign_between ts from to)
    spelled_assign f e p from to fit =
        let one = both_hold (are_tokens f) (begins_with (λ kind. not (is_greater kind) && is_assign kind) f
        || (begins_with is_greater f && (leb 3 (least f) && leb (most f) 4))) e in
        let size = width f one.0 p from to fit in
        let low : from + least f ≤ to = size.0 in
        let high : to ≤ from + most f = size.1 in
        elim (either_holds (begins_with (λ kind. not (is_greater kind) && is_assign kind) f)
        (begins_with is_greater f && (leb 3 (least f) && leb (most f) 4)) one.1) [
          | inl plain ↦ assign_at ts from to
              (inl (begins (λ kind. not (is_greater kind) && is_assign kind) f plain p from to fit))
          | inr run ↦ (let two = both_hold (begins_with is_greater f) (leb 3 (least f) && leb (most f) 4) run in
              let three = both_hold (leb 3 (least f)) (leb (most f) 4) two.1 in
              let some : 3 ≤ least f = leb-true 3 (least f) three.0 in
              let few : most f ≤ 4 = leb-true (most f) 4 three.1 in
              assign_at ts from to
              (inr (begins is_greater f two.0 p from to fit, omega (arith, low, some), omega (arith, high, few))))
        ]

    -- ---- parts
    module _ (yields : Row → Use → Bool)
        (nodes : (r : Row) (q : Plain NodeKind) (from mid : ℕ) → Below r q from mid → IsNode (value q) from mid)
        (reads : (r : Row) (u : Use) → yields r u ≡ true → (q : Plain NodeKind) (from mid : ℕ) → Below r q from mid
        → HasAt u (value q)) where
      next_first : (f : Rhs Row) → goes_on f ≡ true → (p : Plain NodeKind) (from to : ℕ)
          → Fits h (keys_of ts) Below f p from to → first_of (part (values p) 0) ≡ from
      unfolding made
      next_first (row r f) e p from to fit =
          let P : Plain NodeKind → Type 0 = λ t. first_of (part (values t) 0) ≡ from in
          subst P (sym fit.3) (node_first (value fit.0) from fit.2 (nodes r fit.0 from fit.2 fit.4))
      next_first done e p from to fit = clash e
      next_first (tok s may f) e p from to fit = clash e
      next_first (punct kind f) e p from to fit = clash e
      next_first (opt c g f) e p from to fit = clash e
      next_first (many c g f) e p from to fit = clash e
      next_first (alt t a b f) e p from to fit = clash e
      next_first (when_ t f) e p from to fit = clash e
      next_first (where_ t f) e p from to fit = clash e

      meets_moved : (b : Value) (s : Needs) (p q : Plain NodeKind) → p ≡ q → Meets ts b s (part (values q))
          → Meets ts b s (part (values p))
      meets_moved b s p q e h = let P : Plain NodeKind → Type 0 = λ t. Meets ts b s (part (values t)) in
          subst P (sym e) h

      -- a kept token
      leaf_value : (so : LeafKind) (n : ℕ) → value (leaf so n) ≡ token n
      unfolding made
      leaf_value so n = value_leaf x ts n

      leaf_has : (so : LeafKind) (may : TokenKind → Bool) (at : ℕ) → has_kind may (seen (keys_of ts) at) ≡ true
          → HasKind may (token_of ts (value (leaf so at)))
      leaf_has so may at e =
          value_moved (λ v. HasKind may (token_of ts v)) (value (leaf so at)) (token at) (leaf_value so at)
          (has_token ts may at e)

      leaf_there : (so : LeafKind) (may : TokenKind → Bool) (at : ℕ) → has_kind may (seen (keys_of ts) at) ≡ true
          → IsThere (token_of ts (value (leaf so at)))
      leaf_there so may at e =
          kind_there may (token_of ts (value (leaf so at))) (leaf_has so may at e)

      leaf_behind : (so : LeafKind) (n : ℕ) → behind (value (leaf so n)) ≡ n + 1
      leaf_behind so n = ap behind (leaf_value so n)

      -- a name
      named : (y : List ℕ) (o : Option Token) → IsThere o → IsThere (option_map (λ t. Some (ident_of y t)) o)
      named y (Some t) h = tt
      named y None h = absurd h

      leaf_name : (so : LeafKind) (may : TokenKind → Bool) (at : ℕ) → has_kind may (seen (keys_of ts) at) ≡ true
          → (y : List ℕ)
          → IsThere (own_name_of y ts (value (leaf so at)))
      leaf_name so may at e y =
          value_moved (λ v. IsThere (own_name_of y ts v)) (value (leaf so at)) (token at) (leaf_value so at)
          (named y (slice_get ts at) (kind_there may (slice_get ts at) (has_token ts may at e)))

      maybe_name : (y : List ℕ) (o : Option Token) → IsThere o → IsThere (option_map Some (option_map (ident_of y) o))
      maybe_name y (Some t) h = tt
      maybe_name y None h = absurd h

      group_name : (y : List ℕ) (v : Value) → IsThere (token_of ts (part v 0)) → IsThere (own_name_of y ts v)
      group_name y (more v vs) h = maybe_name y (token_of ts v) h
      group_name y no_part h = tt
      group_name y no_more h = tt
      group_name y (token n) h = absurd h
      group_name y (made_node from to m) h = tt

      -- an operator between two places
      binary_moved : (a b c d : ℕ) → a ≡ c → b ≡ d → IsThere (binary_between ts c d) → IsThere (binary_between ts a b)
      binary_moved a b c d e f h =
          let P : ℕ → Type 0 = λ n. IsThere (binary_between ts n b) in
          let Q : ℕ → Type 0 = λ n. IsThere (binary_between ts c n) in
          subst P (sym e) (subst Q (sym f) h)

      assign_moved : (a b c d : ℕ) → a ≡ c → b ≡ d → IsThere (assign_between ts c d) → IsThere (assign_between ts a b)
      assign_moved a b c d e f h =
          let P : ℕ → Type 0 = λ n. IsThere (assign_between ts n b) in
          let Q : ℕ → Type 0 = λ n. IsThere (assign_between ts c n) in
          subst P (sym e) (subst Q (sym f) h)

      -- the turns of a list, each of which is such
      turns_meet : (g : Rhs Row) (n : Needs) (c : Predict)
          → ((q : Plain NodeKind) (from mid : ℕ) → Fits h (keys_of ts) Below g q from mid
          → Meets ts no_part n (part (values q)))
          → (p : Plain NodeKind) (from to : ℕ) → Turns h (keys_of ts) c (Fits h (keys_of ts) Below g) p from to
          → EachTurn (λ v. Meets ts no_part n (part (as_group v))) (values p)
      unfolding made
      turns_meet g n c one nil from to fit = tt
      turns_meet g n c one (turn q ps) from to fit = (
        value_moved (λ v. Meets ts no_part n (part (as_group v))) (value q) (values q)
            (form_grouped g q from fit.0 fit.2)
            (value_moved (λ v. Meets ts no_part n (part v)) (as_group (values q)) (values q)
            (as_group_packed (map (value_of x ts) (parts_of q))) (one q from fit.0 fit.2)),
        turns_meet g n c one ps fit.0 to fit.3,
      )
      turns_meet g n c one _ from to fit = absurd fit

      -- parts of a group
      group_meets : (P : Value → Type 0) (f : Rhs Row) (q : Plain NodeKind) (from mid : ℕ)
          → Fits h (keys_of ts) Below f q from mid → P (values q) → P (as_group (value q))
      group_meets P f q from mid fit here =
          value_moved (λ v. P (as_group v)) (value q) (values q) (form_grouped f q from mid fit)
          (value_moved P (as_group (values q)) (values q) (as_group_packed (map (value_of x ts) (parts_of q))) here)

      maybe_meets : (M : Value → Type 0) (f : Rhs Row) (q : Plain NodeKind) (from mid : ℕ)
          → Fits h (keys_of ts) Below f q from mid → M (values q) → MayMeet M (value q)
      maybe_meets M f q from mid fit here =
          value_moved (MayMeet M) (value q) (values q) (form_grouped f q from mid fit)
          (may_meet M (map (value_of x ts) (parts_of q)) here)

      maybe_absent : (M : Value → Type 0) (q : Plain NodeKind) → q ≡ nil → MayMeet M (value q)
      maybe_absent M q e = value_moved (MayMeet M) (value q) no_more (nil_grouped q e) tt

      maybe_bare : (M : Value → Type 0) (f : Rhs Row) → is_bare f ≡ true → (q : Plain NodeKind) (from mid : ℕ)
          → Fits h (keys_of ts) Below f q from mid → MayMeet M (value q)
      maybe_bare M f e q from mid fit =
          value_moved (MayMeet M) (value q) (values q) (form_grouped f q from mid fit)
          (value_moved (MayMeet M) (values q) no_more (bare_values f e q from mid fit) tt)

      pub form_meets : (near : Bool) (f : Rhs Row) (s : Needs) → covers yields near f s ≡ true
          → (b : Value) (p : Plain NodeKind)
          (from to : ℕ) → (near ≡ true → behind b ≡ from) → Fits h (keys_of ts) Below f p from to
          → Meets ts b s (part (values p))
      unfolding made
      form_meets near f rest e b p from to at fit = tt
      form_meets near f never e b p from to at fit = clash e
      form_meets near done _ e b p from to at fit = clash e
      form_meets near (punct kind f) s e b p from to at fit =
          meets_moved b s p (mark from fit.0) fit.1 (form_meets false f s e b fit.0 (from + 1) to (λ e. clash e) fit.3)
      form_meets near (when_ t f) s e b p from to at fit =
          when_asked (covers yields near f s) t (seen (keys_of ts) from) e
          (λ same. form_meets near f s same b p from to at fit.1) fit.0
      form_meets near (where_ t f) s e b p from to at fit = form_meets near f s e b p from to at fit.1
      form_meets near (tok so may f) (any s) e b p from to at fit =
          meets_moved b (any s) p (cons (leaf so from) fit.0) fit.1
          (tt, form_meets true f s e (value (leaf so from)) fit.0 (from + 1) to (λ e. leaf_behind so from) fit.3)
      form_meets near (tok so may f) (a_leaf s) e b p from to at fit =
          meets_moved b (a_leaf s) p (cons (leaf so from) fit.0) fit.1 (
            leaf_there so may from fit.2,
            form_meets true f s e (value (leaf so from)) fit.0 (from + 1) to (λ e. leaf_behind so from) fit.3,
          )
      form_meets near (tok so may f) (word want s) e b p from to at fit =
          let both = both_hold (only_such may want) (covers yields true f s) e in
          meets_moved b (word want s) p (cons (leaf so from) fit.0) fit.1 (
            leaf_has so want from (such may want (seen (keys_of ts) from) both.0 fit.2),
            form_meets true f s both.1 (value (leaf so from)) fit.0 (from + 1) to (λ e. leaf_behind so from) fit.3,
          )
      form_meets near (tok so may f) (name s) e b p from to at fit =
          meets_moved b (name s) p (cons (leaf so from) fit.0) fit.1 (
            leaf_name so may from fit.2,
            form_meets true f s e (value (leaf so from)) fit.0 (from + 1) to (λ e. leaf_behind so from) fit.3,
          )
      form_meets near (tok so may f) (binary s) e b p from to at fit =
          let one = both_hold near
          (goes_on f && (spells_binary {Row = Row} (tok so may done) && covers yields true f s)) e in
          let two = both_hold (goes_on f) (spells_binary {Row = Row} (tok so may done) && covers yields true f s)
          one.1 in
          let three = both_hold (spells_binary {Row = Row} (tok so may done)) (covers yields true f s) two.1 in
          meets_moved b (binary s) p (cons (leaf so from) fit.0) fit.1 (
            binary_moved (behind b) (first_of (part (values fit.0) 0)) from (from + 1) (at one.0)
                (next_first f two.0 fit.0 (from + 1) to fit.3)
                (spelled_binary (tok so may done) three.0 (cons (leaf so from) nil) from (from + 1)
                (nil, refl, fit.2, (refl, refl))),
            form_meets true f s three.1 (value (leaf so from)) fit.0 (from + 1) to (λ e. leaf_behind so from) fit.3,
          )
      form_meets near (tok so may f) (assign s) e b p from to at fit =
          let one = both_hold near
          (goes_on f && (spells_assign {Row = Row} (tok so may done) && covers yields true f s)) e in
          let two = both_hold (goes_on f) (spells_assign {Row = Row} (tok so may done) && covers yields true f s)
          one.1 in
          let three = both_hold (spells_assign {Row = Row} (tok so may done)) (covers yields true f s) two.1 in
          meets_moved b (assign s) p (cons (leaf so from) fit.0) fit.1 (
            assign_moved (behind b) (first_of (part (values fit.0) 0)) from (from + 1) (at one.0)
                (next_first f two.0 fit.0 (from + 1) to fit.3)
                (spelled_assign (tok so may done) three.0 (cons (leaf so from) nil) from (from + 1)
                (nil, refl, fit.2, (refl, refl))),
            form_meets true f s three.1 (value (leaf so from)) fit.0 (from + 1) to (λ e. leaf_behind so from) fit.3,
          )
      form_meets near (tok so may f) _ e b p from to at fit = clash e
      form_meets near (row r f) (any s) e b p from to at fit =
          meets_moved b (any s) p (cons fit.0 fit.1) fit.3 (
            tt,
            form_meets true f s e (value fit.0) fit.1 fit.2 to
                (λ e. node_behind (value fit.0) from fit.2 (nodes r fit.0 from fit.2 fit.4)) fit.5,
          )
      form_meets near (row r f) (of u s) e b p from to at fit =
          let both = both_hold (yields r u) (covers yields true f s) e in
          meets_moved b (of u s) p (cons fit.0 fit.1) fit.3 (
            reads r u both.0 fit.0 from fit.2 fit.4,
            form_meets true f s both.1 (value fit.0) fit.1 fit.2 to
                (λ e. node_behind (value fit.0) from fit.2 (nodes r fit.0 from fit.2 fit.4)) fit.5,
          )
      form_meets near (row r f) _ e b p from to at fit = clash e
      form_meets near (opt c g f) (any s) e b p from to at fit =
          meets_moved b (any s) p (cons fit.0 fit.1) fit.3
          (tt, form_meets false f s e (value fit.0) fit.1 fit.2 to (λ e. clash e) fit.5)
      form_meets near (opt c g f) (maybe n s) e b p from to at fit =
          let both = both_hold (covers yields false g n) (covers yields false f s) e in
          let M : Value → Type 0 = λ v. Meets ts no_part n (part v) in
          meets_moved b (maybe n s) p (cons fit.0 fit.1) fit.3 (
            elim fit.4 [
              | inl there ↦ maybe_meets M g fit.0 from fit.2 there.1
                  (form_meets false g n both.0 no_part fit.0 from fit.2 (λ e. clash e) there.1)
              | inr absent ↦ maybe_absent M fit.0 absent.1
            ],
            form_meets false f s both.1 (value fit.0) fit.1 fit.2 to (λ e. clash e) fit.5,
          )
      form_meets near (opt c g f) (name s) e b p from to at fit =
          let both = both_hold (covers yields false g (a_leaf rest)) (covers yields false f s) e in
          let M : Value → Type 0 = λ v. (y : List ℕ) → IsThere (own_name_of y ts v) in
          meets_moved b (name s) p (cons fit.0 fit.1) fit.3 (
            elim fit.4 [
              | inl there ↦ value_moved M (value fit.0) (values fit.0) (form_grouped g fit.0 from fit.2 there.1) (λ y.
                  group_name y (values fit.0)
                  (form_meets false g (a_leaf rest) both.0 no_part fit.0 from fit.2 (λ e. clash e) there.1).0)
              | inr absent ↦ value_moved M (value fit.0) no_more (nil_grouped fit.0 absent.1) (λ y. tt)
            ],
            form_meets false f s both.1 (value fit.0) fit.1 fit.2 to (λ e. clash e) fit.5,
          )
      form_meets near (opt c g f) (hollow s) e b p from to at fit =
          let both = both_hold (is_bare g) (covers yields false f s) e in
          meets_moved b (hollow s) p (cons fit.0 fit.1) fit.3 (
            elim fit.4 [
              | inl there ↦ form_grouped g fit.0 from fit.2 there.1 ∙ bare_values g both.0 fit.0 from fit.2 there.1
              | inr absent ↦ nil_grouped fit.0 absent.1
            ],
            form_meets false f s both.1 (value fit.0) fit.1 fit.2 to (λ e. clash e) fit.5,
          )
      form_meets near (opt c g f) _ e b p from to at fit = clash e
      form_meets near (many c g f) (any s) e b p from to at fit =
          meets_moved b (any s) p (cons fit.0 fit.1) fit.3
          (tt, form_meets false f s e (value fit.0) fit.1 fit.2 to (λ e. clash e) fit.5)
      form_meets near (many c g f) (list n s) e b p from to at fit =
          let both = both_hold (covers yields false g n) (covers yields false f s) e in
          meets_moved b (list n s) p (cons fit.0 fit.1) fit.3 (
            value_moved (EachTurn (λ v. Meets ts no_part n (part (as_group v)))) (value fit.0) (values fit.0)
                (turns_grouped h c (Fits h (keys_of ts) Below g) fit.0 from fit.2 fit.4)
                (turns_meet g n c
                (λ q start mid fits. form_meets false g n both.0 no_part q start mid (λ e. clash e) fits)
                fit.0 from fit.2 fit.4),
            form_meets false f s both.1 (value fit.0) fit.1 fit.2 to (λ e. clash e) fit.5,
          )
      form_meets near (many c g f) _ e b p from to at fit = clash e
      form_meets near (alt t g o f) (any s) e b p from to at fit =
          meets_moved b (any s) p (cons fit.0 fit.1) fit.3
          (tt, form_meets false f s e (value fit.0) fit.1 fit.2 to (λ e. clash e) fit.5)
      form_meets near (alt t g o f) (maybe n s) e b p from to at fit =
          let one = both_hold (is_bare g || covers yields false g n)
          ((is_bare o || covers yields false o n) && covers yields false f s) e in
          let two = both_hold (is_bare o || covers yields false o n) (covers yields false f s) one.1 in
          let M : Value → Type 0 = λ v. Meets ts no_part n (part v) in
          meets_moved b (maybe n s) p (cons fit.0 fit.1) fit.3 (
            elim fit.4 [
              | inl this ↦ elim (either_holds (is_bare g) (covers yields false g n) one.0) [
                | inl bare ↦ maybe_bare M g bare fit.0 from fit.2 this.1
                | inr covered ↦ maybe_meets M g fit.0 from fit.2 this.1
                    (form_meets false g n covered no_part fit.0 from fit.2 (λ e. clash e) this.1)
              ]
              | inr other ↦ elim (either_holds (is_bare o) (covers yields false o n) two.0) [
                | inl bare ↦ maybe_bare M o bare fit.0 from fit.2 other.1
                | inr covered ↦ maybe_meets M o fit.0 from fit.2 other.1
                    (form_meets false o n covered no_part fit.0 from fit.2 (λ e. clash e) other.1)
              ]
            ],
            form_meets false f s two.1 (value fit.0) fit.1 fit.2 to (λ e. clash e) fit.5,
          )
      form_meets near (alt t g o f) (group_of n s) e b p from to at fit =
          let one = both_hold (covers yields near g n) (covers yields near o n && covers yields false f s) e in
          let two = both_hold (covers yields near o n) (covers yields false f s) one.1 in
          let M : Value → Type 0 = λ v. Meets ts b n (part v) in
          meets_moved b (group_of n s) p (cons fit.0 fit.1) fit.3 (
            elim fit.4 [
              | inl this ↦ group_meets M g fit.0 from fit.2 this.1
                  (form_meets near g n one.0 b fit.0 from fit.2 at this.1)
              | inr other ↦ group_meets M o fit.0 from fit.2 other.1
                  (form_meets near o n two.0 b fit.0 from fit.2 at other.1)
            ],
            form_meets false f s two.1 (value fit.0) fit.1 fit.2 to (λ e. clash e) fit.5,
          )
      form_meets near (alt t g o f) (either_of n m s) e b p from to at fit =
          let one = both_hold (covers yields near g n) (covers yields near o m && covers yields false f s) e in
          let two = both_hold (covers yields near o m) (covers yields false f s) one.1 in
          let N : Value → Type 0 = λ v. Meets ts b n (part v) in
          let M : Value → Type 0 = λ v. Meets ts b m (part v) in
          meets_moved b (either_of n m s) p (cons fit.0 fit.1) fit.3 (
            elim fit.4 [
              | inl this ↦ inl (group_meets N g fit.0 from fit.2 this.1
                  (form_meets near g n one.0 b fit.0 from fit.2 at this.1))
              | inr other ↦ inr (group_meets M o fit.0 from fit.2 other.1
                  (form_meets near o m two.0 b fit.0 from fit.2 at other.1))
            ],
            form_meets false f s two.1 (value fit.0) fit.1 fit.2 to (λ e. clash e) fit.5,
          )
      form_meets near (alt t g o f) (or_one n m s) e b p from to at fit =
          let one = both_hold (covers yields near g n)
          (is_single o && (covers yields near o m && covers yields false f s)) e in
          let two = both_hold (is_single o) (covers yields near o m && covers yields false f s) one.1 in
          let three = both_hold (covers yields near o m) (covers yields false f s) two.1 in
          let N : Value → Type 0 = λ v. Meets ts b n (part v) in
          let M : Value → Type 0 = λ v. Meets ts b m (part v) in
          meets_moved b (or_one n m s) p (cons fit.0 fit.1) fit.3 (
            elim fit.4 [
              | inl this ↦ inl (group_meets N g fit.0 from fit.2 this.1
                  (form_meets near g n one.0 b fit.0 from fit.2 at this.1))
              | inr other ↦ inr (
                group_meets IsAlone o fit.0 from fit.2 other.1 (single_alone o two.0 fit.0 from fit.2 other.1),
                group_meets M o fit.0 from fit.2 other.1
                    (form_meets near o m three.0 b fit.0 from fit.2 at other.1),
              )
            ],
            form_meets false f s three.1 (value fit.0) fit.1 fit.2 to (λ e. clash e) fit.5,
          )
      form_meets near (alt t g o f) (binary s) e b p from to at fit =
          let one = both_hold near (goes_on f && (spells_binary g && (spells_binary o && covers yields false f s))) e in
          let two = both_hold (goes_on f) (spells_binary g && (spells_binary o && covers yields false f s)) one.1 in
          let three = both_hold (spells_binary g) (spells_binary o && covers yields false f s) two.1 in
          let four = both_hold (spells_binary o) (covers yields false f s) three.1 in
          meets_moved b (binary s) p (cons fit.0 fit.1) fit.3 (
            binary_moved (behind b) (first_of (part (values fit.1) 0)) from fit.2 (at one.0)
                (next_first f two.0 fit.1 fit.2 to fit.5) (elim fit.4 [
                  | inl this ↦ spelled_binary g three.0 fit.0 from fit.2 this.1
                  | inr other ↦ spelled_binary o four.0 fit.0 from fit.2 other.1
                ]),
            form_meets false f s four.1 (value fit.0) fit.1 fit.2 to (λ e. clash e) fit.5,
          )
      form_meets near (alt t g o f) (assign s) e b p from to at fit =
          let one = both_hold near (goes_on f && (spells_assign g && (spells_assign o && covers yields false f s))) e in
          let two = both_hold (goes_on f) (spells_assign g && (spells_assign o && covers yields false f s)) one.1 in
          let three = both_hold (spells_assign g) (spells_assign o && covers yields false f s) two.1 in
          let four = both_hold (spells_assign o) (covers yields false f s) three.1 in
          meets_moved b (assign s) p (cons fit.0 fit.1) fit.3 (
            assign_moved (behind b) (first_of (part (values fit.1) 0)) from fit.2 (at one.0)
                (next_first f two.0 fit.1 fit.2 to fit.5) (elim fit.4 [
                  | inl this ↦ spelled_assign g three.0 fit.0 from fit.2 this.1
                  | inr other ↦ spelled_assign o four.0 fit.0 from fit.2 other.1
                ]),
            form_meets false f s four.1 (value fit.0) fit.1 fit.2 to (λ e. clash e) fit.5,
          )
      form_meets near (alt t g o f) _ e b p from to at fit = clash e
