-- Where the parts stand that may have to be simple targets: no token that is dropped stands before them; and what a turn
-- behind an operand of an operator is.
use Rattle.std.specs.Prelude.{List, Bool, true, false, ◌&&◌}
use Rattle.std.proofs.Common.{◌≡◌, ℕ, ◌+◌, sym, subst, inl, inr}
use Rattle.grammar_theory.specs.Key.{Key}
use Rattle.grammar_theory.specs.Productions.{Predict, Rhs, done, tok, punct, row, opt, many, alt, when_, where_}
use Rattle.grammar_theory.specs.Plain.{Plain, node, leaf, nil, cons, mark, turn, via}
use Rattle.grammar_theory.specs.Fits.{Reading, Turns, Fits}
use Rattle.grammar_theory.proofs.OutLemmas.{clash}
use Rattle.grammar_theory.proofs.Progress.{both_hold}
use Rattle.es_grammar.specs.declared.rows.Row.{Row}
use Rattle.es_grammar.specs.declared.rows.NodeKind.{NodeKind}
use Rattle.es_grammar.specs.declared.rows.NodeKind.TheVariants.{Parenthesized, Chain, TypeAssertion, TypedBinary, Assignment, UpdatePostfix, UpdatePrefix}
use Rattle.es_program_reader.proofs.FormedLemmas.{IsOne, One}

-- a part stands first
abbrev begins : Rhs Row → Bool
begins (row r f) = true
begins (when_ t f) = begins f
begins (where_ t f) = begins f
begins _ = false

-- a part stands behind a kept token
abbrev begins_second : Rhs Row → Bool
begins_second (tok s may f) = begins f
begins_second (when_ t f) = begins_second f
begins_second (where_ t f) = begins_second f
begins_second _ = false

-- a part stands behind a token that is dropped
abbrev opens : Rhs Row → Bool
opens (punct k f) = begins f
opens (when_ t f) = opens f
opens (where_ t f) = opens f
opens _ = false

-- a group stands behind a token that is dropped, and behind it such a part
abbrev asserts_part : Rhs Row → Bool
asserts_part (punct k (alt t a b f)) = opens f
asserts_part _ = false

-- a list whose turns each begin with a part
abbrev turns_begin : Rhs Row → Bool
turns_begin (many c g f) = begins g
turns_begin _ = false

abbrev behind_one : Rhs Row → Bool
behind_one (row r f) = turns_begin f
behind_one _ = false

-- a part, another one, and such a list
abbrev behind_two : Rhs Row → Bool
behind_two (row r f) = behind_one f
behind_two _ = false

-- a part that may be a group: no token that is dropped begins it
abbrev shows_part : Rhs Row → Bool
shows_part (punct k f) = false
shows_part (when_ t f) = shows_part f
shows_part (where_ t f) = shows_part f
shows_part _ = true

-- such a part stands second in a group, or none
abbrev shows_second : Rhs Row → Bool
shows_second done = true
shows_second (tok s may f) = true
shows_second (row r f) = true
shows_second (opt c g f) = shows_part g
shows_second (alt t a b f) = shows_part a && shows_part b
shows_second (when_ t f) = shows_second f
shows_second (where_ t f) = shows_second f
shows_second _ = false

-- a group, whose first part is an operator
abbrev shows_group : Rhs Row → Bool
shows_group (punct k done) = true
shows_group (tok s may f) = shows_second f
shows_group (alt t a b f) = shows_second f
shows_group (when_ t f) = shows_group f
shows_group (where_ t f) = shows_group f
shows_group _ = false

-- a further part stands here, no token that is dropped before it
abbrev continues : Rhs Row → Bool
continues (tok s may f) = true
continues (row r f) = true
continues (opt c g f) = true
continues (many c g f) = true
continues (alt t a b f) = true
continues (when_ t f) = continues f
continues (where_ t f) = continues f
continues _ = false

-- the one part of a turn is a group; or it has several
abbrev shows_turn : Rhs Row → Bool
shows_turn (tok s may f) = continues f
shows_turn (alt t a b done) = shows_group a && shows_group b
shows_turn (alt t a b f) = continues f
shows_turn (when_ t f) = shows_turn f
shows_turn (where_ t f) = shows_turn f
shows_turn _ = false

-- an operand, and a turn behind it
abbrev behind_operand : Rhs Row → Bool
behind_operand (row r f) = shows_turn f
behind_operand _ = false

-- the form of a node of this alternative
abbrev pub stands : NodeKind → Rhs Row → Bool
stands Assignment f = begins f
stands UpdatePostfix f = begins f
stands UpdatePrefix f = begins_second f
stands Parenthesized f = opens f
stands Chain f = behind_two f
stands TypedBinary f = behind_operand f
stands TypeAssertion f = asserts_part f
stands _ f = true

-- a part stands first
abbrev pub HasFirst : Plain NodeKind → Type 0
HasFirst (cons q ps) = Unit {0}
HasFirst _ = ⊥

-- a part stands second
abbrev pub HasSecond : Plain NodeKind → Type 0
HasSecond (cons operator ps) = HasFirst ps
HasSecond _ = ⊥

-- a part stands behind a token that is dropped
abbrev pub HasInner : Plain NodeKind → Type 0
HasInner (mark n ps) = HasFirst ps
HasInner _ = ⊥

-- such a part stands behind one that stands behind a token that is dropped
abbrev pub IsAsserted : Plain NodeKind → Type 0
IsAsserted (mark n (cons asserted ps)) = HasInner ps
IsAsserted _ = ⊥

-- each turn begins with a part
abbrev pub EachBegins : Plain NodeKind → Type 0
EachBegins nil = Unit {0}
EachBegins (turn q ps) = HasFirst q × EachBegins ps
EachBegins _ = ⊥

abbrev pub HasTurns : Plain NodeKind → Type 0
HasTurns (cons more ps) = EachBegins more
HasTurns _ = ⊥

abbrev pub IsBehindOne : Plain NodeKind → Type 0
IsBehindOne (cons p ps) = HasTurns ps
IsBehindOne _ = ⊥

-- a part, another one, and turns that each begin with a part
abbrev pub IsChain : Plain NodeKind → Type 0
IsChain (cons q ps) = IsBehindOne ps
IsChain _ = ⊥

-- a part that is no token that was dropped, nor a turn
abbrev pub IsPart : Plain NodeKind → Type 0
IsPart (mark n ps) = ⊥
IsPart (turn p ps) = ⊥
IsPart _ = Unit {0}

-- such a part stands second, or none
abbrev pub HasPart : Plain NodeKind → Type 0
HasPart nil = Unit {0}
HasPart (cons x ps) = IsPart x
HasPart _ = ⊥

-- a group: what stands behind its operator is such a part
abbrev pub IsGroup : Plain NodeKind → Type 0
IsGroup (cons operator ps) = HasPart ps
IsGroup (mark n nil) = Unit {0}
IsGroup _ = ⊥

-- further parts
abbrev pub Continues : Plain NodeKind → Type 0
Continues (cons p ps) = Unit {0}
Continues _ = ⊥

-- the one part of a turn is a group; or it has several
abbrev pub IsTurn : Plain NodeKind → Type 0
IsTurn (cons p nil) = IsGroup p
IsTurn (cons p ps) = Continues ps
IsTurn _ = ⊥

-- an operand, and a turn behind it
abbrev pub IsBinary : Plain NodeKind → Type 0
IsBinary (cons q ps) = IsTurn ps
IsBinary _ = ⊥

-- the parts of a node of this alternative
abbrev pub Stands : NodeKind → Plain NodeKind → Type 0
Stands Assignment ps = HasFirst ps
Stands UpdatePostfix ps = HasFirst ps
Stands UpdatePrefix ps = HasSecond ps
Stands Parenthesized ps = HasInner ps
Stands Chain ps = IsChain ps
Stands TypedBinary ps = IsBinary ps
Stands TypeAssertion ps = IsAsserted ps
Stands _ ps = Unit {0}

moved : (P : Plain NodeKind → Type 0) (p q : Plain NodeKind) → p ≡ q → P q → P p
moved P p q e h = subst P (sym e) h

module _ (h : Reading) (K : List Key) where
  first_holds : (f : Rhs Row) (p : Plain NodeKind) (from to : ℕ) → begins f ≡ true → Fits h K One f p from to
      → HasFirst p
  first_holds done p from to e fit = clash e
  first_holds (tok s may f) p from to e fit = clash e
  first_holds (punct k f) p from to e fit = clash e
  first_holds (row r f) p from to e fit = moved HasFirst p (cons fit.0 fit.1) fit.3 tt
  first_holds (opt c g f) p from to e fit = clash e
  first_holds (many c g f) p from to e fit = clash e
  first_holds (alt t a b f) p from to e fit = clash e
  first_holds (when_ t f) p from to e fit = first_holds f p from to e fit.1
  first_holds (where_ t f) p from to e fit = first_holds f p from to e fit.1

  second_holds : (f : Rhs Row) (p : Plain NodeKind) (from to : ℕ) → begins_second f ≡ true → Fits h K One f p from to
      → HasSecond p
  second_holds done p from to e fit = clash e
  second_holds (tok s may f) p from to e fit =
      moved HasSecond p (cons (leaf s from) fit.0) fit.1 (first_holds f fit.0 (from + 1) to e fit.3)
  second_holds (punct k f) p from to e fit = clash e
  second_holds (row r f) p from to e fit = clash e
  second_holds (opt c g f) p from to e fit = clash e
  second_holds (many c g f) p from to e fit = clash e
  second_holds (alt t a b f) p from to e fit = clash e
  second_holds (when_ t f) p from to e fit = second_holds f p from to e fit.1
  second_holds (where_ t f) p from to e fit = second_holds f p from to e fit.1

  inner_holds : (f : Rhs Row) (p : Plain NodeKind) (from to : ℕ) → opens f ≡ true → Fits h K One f p from to
      → HasInner p
  inner_holds done p from to e fit = clash e
  inner_holds (tok s may f) p from to e fit = clash e
  inner_holds (punct k f) p from to e fit =
      moved HasInner p (mark from fit.0) fit.1 (first_holds f fit.0 (from + 1) to e fit.3)
  inner_holds (row r f) p from to e fit = clash e
  inner_holds (opt c g f) p from to e fit = clash e
  inner_holds (many c g f) p from to e fit = clash e
  inner_holds (alt t a b f) p from to e fit = clash e
  inner_holds (when_ t f) p from to e fit = inner_holds f p from to e fit.1
  inner_holds (where_ t f) p from to e fit = inner_holds f p from to e fit.1

  asserted_holds : (f : Rhs Row) (p : Plain NodeKind) (from to : ℕ) → asserts_part f ≡ true → Fits h K One f p from to
      → IsAsserted p
  asserted_holds (punct k (alt t a b f)) p from to e fit =
      moved IsAsserted p (mark from fit.0) fit.1
      (moved (λ ps. IsAsserted (mark from ps)) fit.0 (cons fit.3.0 fit.3.1) fit.3.3
      (inner_holds f fit.3.1 fit.3.2 to e fit.3.5))
  asserted_holds _ p from to e fit = clash e

  turns_hold : (c : Predict) (g : Rhs Row) → begins g ≡ true → (q : Plain NodeKind) (from to : ℕ)
      → Turns h K c (Fits h K One g) q from to → EachBegins q
  turns_hold c g e nil from to fit = tt
  turns_hold c g e (turn q ps) from to fit =
      (first_holds g q from fit.0 e fit.2, turns_hold c g e ps fit.0 to fit.3)
  turns_hold c g e _ from to fit = absurd fit

  list_holds : (f : Rhs Row) (p : Plain NodeKind) (from to : ℕ) → turns_begin f ≡ true → Fits h K One f p from to
      → HasTurns p
  list_holds (many c g f) p from to e fit =
      moved HasTurns p (cons fit.0 fit.1) fit.3 (turns_hold c g e fit.0 from fit.2 fit.4)
  list_holds _ p from to e fit = clash e

  one_holds : (f : Rhs Row) (p : Plain NodeKind) (from to : ℕ) → behind_one f ≡ true → Fits h K One f p from to
      → IsBehindOne p
  one_holds (row r f) p from to e fit =
      moved IsBehindOne p (cons fit.0 fit.1) fit.3 (list_holds f fit.1 fit.2 to e fit.5)
  one_holds _ p from to e fit = clash e

  two_holds : (f : Rhs Row) (p : Plain NodeKind) (from to : ℕ) → behind_two f ≡ true → Fits h K One f p from to
      → IsChain p
  two_holds (row r f) p from to e fit =
      moved IsChain p (cons fit.0 fit.1) fit.3 (one_holds f fit.1 fit.2 to e fit.5)
  two_holds _ p from to e fit = clash e

  part_holds : (f : Rhs Row) (p : Plain NodeKind) (from to : ℕ) → shows_part f ≡ true → Fits h K One f p from to
      → IsPart p
  part_holds done p from to e fit = moved IsPart p nil fit.0 tt
  part_holds (tok s may f) p from to e fit = moved IsPart p (cons (leaf s from) fit.0) fit.1 tt
  part_holds (punct k f) p from to e fit = clash e
  part_holds (row r f) p from to e fit = moved IsPart p (cons fit.0 fit.1) fit.3 tt
  part_holds (opt c g f) p from to e fit = moved IsPart p (cons fit.0 fit.1) fit.3 tt
  part_holds (many c g f) p from to e fit = moved IsPart p (cons fit.0 fit.1) fit.3 tt
  part_holds (alt t a b f) p from to e fit = moved IsPart p (cons fit.0 fit.1) fit.3 tt
  part_holds (when_ t f) p from to e fit = part_holds f p from to e fit.1
  part_holds (where_ t f) p from to e fit = part_holds f p from to e fit.1

  -- a node is such a part
  one_part : (p : Plain NodeKind) → IsOne p → IsPart p
  one_part (node l from to ps) one = tt
  one_part (via w p) one = tt
  one_part _ one = absurd one

  second_part : (f : Rhs Row) (p : Plain NodeKind) (from to : ℕ) → shows_second f ≡ true → Fits h K One f p from to
      → HasPart p
  second_part done p from to e fit = moved HasPart p nil fit.0 tt
  second_part (tok s may f) p from to e fit = moved HasPart p (cons (leaf s from) fit.0) fit.1 tt
  second_part (punct k f) p from to e fit = clash e
  second_part (row r f) p from to e fit = moved HasPart p (cons fit.0 fit.1) fit.3 (one_part fit.0 fit.4)
  second_part (opt c g f) p from to e fit =
      moved HasPart p (cons fit.0 fit.1) fit.3 (elim fit.4 [
        | inl there ↦ part_holds g fit.0 from fit.2 e there.1
        | inr absent ↦ moved IsPart fit.0 nil absent.1 tt
      ])
  second_part (many c g f) p from to e fit = clash e
  second_part (alt t a b f) p from to e fit =
      let both = both_hold (shows_part a) (shows_part b) e in
      moved HasPart p (cons fit.0 fit.1) fit.3 (elim fit.4 [
        | inl one ↦ part_holds a fit.0 from fit.2 both.0 one.1
        | inr other ↦ part_holds b fit.0 from fit.2 both.1 other.1
      ])
  second_part (when_ t f) p from to e fit = second_part f p from to e fit.1
  second_part (where_ t f) p from to e fit = second_part f p from to e fit.1

  group_holds : (f : Rhs Row) (p : Plain NodeKind) (from to : ℕ) → shows_group f ≡ true → Fits h K One f p from to
      → IsGroup p
  group_holds (punct k done) p from to e fit =
      moved IsGroup p (mark from fit.0) fit.1 (moved (λ ps. IsGroup (mark from ps)) fit.0 nil fit.3.0 tt)
  group_holds (tok s may f) p from to e fit =
      moved IsGroup p (cons (leaf s from) fit.0) fit.1 (second_part f fit.0 (from + 1) to e fit.3)
  group_holds (alt t a b f) p from to e fit =
      moved IsGroup p (cons fit.0 fit.1) fit.3 (second_part f fit.1 fit.2 to e fit.5)
  group_holds (when_ t f) p from to e fit = group_holds f p from to e fit.1
  group_holds (where_ t f) p from to e fit = group_holds f p from to e fit.1
  group_holds _ p from to e fit = clash e

  continue_holds : (f : Rhs Row) (p : Plain NodeKind) (from to : ℕ) → continues f ≡ true → Fits h K One f p from to
      → Continues p
  continue_holds (tok s may f) p from to e fit = moved Continues p (cons (leaf s from) fit.0) fit.1 tt
  continue_holds (row r f) p from to e fit = moved Continues p (cons fit.0 fit.1) fit.3 tt
  continue_holds (opt c g f) p from to e fit = moved Continues p (cons fit.0 fit.1) fit.3 tt
  continue_holds (many c g f) p from to e fit = moved Continues p (cons fit.0 fit.1) fit.3 tt
  continue_holds (alt t a b f) p from to e fit = moved Continues p (cons fit.0 fit.1) fit.3 tt
  continue_holds (when_ t f) p from to e fit = continue_holds f p from to e fit.1
  continue_holds (where_ t f) p from to e fit = continue_holds f p from to e fit.1
  continue_holds _ p from to e fit = clash e

  -- several parts
  several : (p ps : Plain NodeKind) → Continues ps → IsTurn (cons p ps)
  several p (cons q ps) more = more
  several p _ more = absurd more

  turn_holds : (f : Rhs Row) (p : Plain NodeKind) (from to : ℕ) → shows_turn f ≡ true → Fits h K One f p from to
      → IsTurn p
  turn_holds (tok s may f) p from to e fit =
      moved IsTurn p (cons (leaf s from) fit.0) fit.1
      (several (leaf s from) fit.0 (continue_holds f fit.0 (from + 1) to e fit.3))
  turn_holds (alt t a b done) p from to e fit =
      let both = both_hold (shows_group a) (shows_group b) e in
      let group : IsGroup fit.0 = elim fit.4 [
        | inl one ↦ group_holds a fit.0 from fit.2 both.0 one.1
        | inr other ↦ group_holds b fit.0 from fit.2 both.1 other.1
      ] in
      moved IsTurn p (cons fit.0 fit.1) fit.3 (moved (λ ps. IsTurn (cons fit.0 ps)) fit.1 nil fit.5.0 group)
  turn_holds (alt t a b f) p from to e fit =
      moved IsTurn p (cons fit.0 fit.1) fit.3 (several fit.0 fit.1 (continue_holds f fit.1 fit.2 to e fit.5))
  turn_holds (when_ t f) p from to e fit = turn_holds f p from to e fit.1
  turn_holds (where_ t f) p from to e fit = turn_holds f p from to e fit.1
  turn_holds _ p from to e fit = clash e

  binary_holds : (f : Rhs Row) (p : Plain NodeKind) (from to : ℕ) → behind_operand f ≡ true → Fits h K One f p from to
      → IsBinary p
  binary_holds (row r f) p from to e fit =
      moved IsBinary p (cons fit.0 fit.1) fit.3 (turn_holds f fit.1 fit.2 to e fit.5)
  binary_holds _ p from to e fit = clash e

  pub stands_holds : (l : NodeKind) (f : Rhs Row) (p : Plain NodeKind) (from to : ℕ) → stands l f ≡ true
      → Fits h K One f p from to
      → Stands l p
  stands_holds Assignment f p from to e fit = first_holds f p from to e fit
  stands_holds UpdatePostfix f p from to e fit = first_holds f p from to e fit
  stands_holds UpdatePrefix f p from to e fit = second_holds f p from to e fit
  stands_holds Parenthesized f p from to e fit = inner_holds f p from to e fit
  stands_holds Chain f p from to e fit = two_holds f p from to e fit
  stands_holds TypedBinary f p from to e fit = binary_holds f p from to e fit
  stands_holds TypeAssertion f p from to e fit = asserted_holds f p from to e fit
  stands_holds _ f p from to e fit = tt
