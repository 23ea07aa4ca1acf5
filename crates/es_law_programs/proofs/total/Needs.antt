-- What is asked of the parts of a node, part by part, and what a form has to be so that its parts are such.
use Rattle.std.specs.Prelude.{ℕ, suc, ◌+◌, leb, Bool, true, false, not, ◌&&◌, ◌||◌, List, Option, Some, None}
use Rattle.std.proofs.Common.{◌≡◌, ◌⊎◌}
use Rattle.es_token.specs.declared.token.Token.{Token}
use Rattle.es_token.specs.declared.token.TokenKind.{TokenKind}
use Rattle.es_token.specs.declared.token.TokenKind.TheVariants as k
use Rattle.grammar_theory.specs.Key.{Key, TokenTest, same_kind, has_kind}
use Rattle.grammar_theory.specs.Productions.{Predict, by_lookahead, greedy, by_predicate, Rhs, done, tok, punct, row, opt, many, alt, when_, where_}
use Rattle.grammar_theory.proofs.EachKind.{holds_everywhere}
use Rattle.es_lowering.specs.Value.{Value, absent, nil, more, part, as_group, first_of, behind}
use Rattle.es_lowering.specs.Texts.{token_of, own_name_of}
use Rattle.es_lowering.specs.Operators.{listed, arithmetic_ops, logical_ops, assign_ops, or_else, binary_between, assign_between}
use Rattle.es_law_programs.proofs.total.Uses.{Use, IsThere, HasAt}

-- what is asked of parts, from the first on
pub data Needs : Type 0 where
  -- nothing more
  rest : Needs
  -- no parts are such
  never : Needs
  -- whatever part
  any : Needs → Needs
  -- a node that may be read so
  of : Use → Needs → Needs
  -- a token
  leaf : Needs → Needs
  -- a token of such a kind
  word : (TokenKind → Bool) → Needs → Needs
  -- a token, or a part that may be absent and begins with one
  name : Needs → Needs
  -- a part that may be absent, by its parts
  maybe : Needs → Needs → Needs
  -- a part that is there or not, and is nothing
  hollow : Needs → Needs
  -- a list, by the parts of a turn
  list : Needs → Needs → Needs
  -- a group of parts
  group_of : Needs → Needs → Needs
  -- a group of either parts
  either_of : Needs → Needs → Needs → Needs
  -- a group of these parts, or of such a single one
  or_one : Needs → Needs → Needs → Needs
  -- an operator of two operands, between the parts before and behind it
  binary : Needs → Needs
  -- an operator of an assignment
  assign : Needs → Needs

-- ---- what is asked of a value
abbrev pub HasKind : (TokenKind → Bool) → Option Token → Type 0
HasKind may (Some t) = may t.kind ≡ true
HasKind may None = ⊥

abbrev pub MayMeet : (Value → Type 0) → Value → Type 0
MayMeet M (more v vs) = M (more v vs)
MayMeet M nil = Unit {0}
MayMeet M _ = ⊥

abbrev pub EachTurn : (Value → Type 0) → Value → Type 0
EachTurn M (more v vs) = M v × EachTurn M vs
EachTurn M _ = Unit {0}

-- a single part
abbrev pub IsAlone : Value → Type 0
IsAlone (more v nil) = Unit {0}
IsAlone _ = ⊥

module _ (ts : List Token) where
  -- these parts are such, behind this one
  abbrev pub Meets : Value → Needs → (ℕ → Value) → Type 0
  Meets b rest p = Unit {0}
  Meets b never p = ⊥
  Meets b (any s) p = Unit {0} × Meets (p 0) s (λ n. p (suc n))
  Meets b (of u s) p = HasAt u (p 0) × Meets (p 0) s (λ n. p (suc n))
  Meets b (leaf s) p = IsThere (token_of ts (p 0)) × Meets (p 0) s (λ n. p (suc n))
  Meets b (word may s) p = HasKind may (token_of ts (p 0)) × Meets (p 0) s (λ n. p (suc n))
  Meets b (name s) p = ((x : List ℕ) → IsThere (own_name_of x ts (p 0))) × Meets (p 0) s (λ n. p (suc n))
  Meets b (maybe g s) p = MayMeet (λ v. Meets absent g (part v)) (p 0) × Meets (p 0) s (λ n. p (suc n))
  Meets b (hollow s) p = (p 0 ≡ nil) × Meets (p 0) s (λ n. p (suc n))
  Meets b (list g s) p = EachTurn (λ v. Meets absent g (part (as_group v))) (p 0) × Meets (p 0) s (λ n. p (suc n))
  Meets b (group_of g s) p = Meets b g (part (as_group (p 0))) × Meets (p 0) s (λ n. p (suc n))
  Meets b (either_of g h s) p =
      (Meets b g (part (as_group (p 0))) ⊎ Meets b h (part (as_group (p 0)))) × Meets (p 0) s (λ n. p (suc n))
  Meets b (or_one g h s) p =
      (Meets b g (part (as_group (p 0))) ⊎ (IsAlone (as_group (p 0)) × Meets b h (part (as_group (p 0)))))
      × Meets (p 0) s (λ n. p (suc n))
  Meets b (binary s) p =
      IsThere (binary_between ts (behind b) (first_of (p 1))) × Meets (p 0) s (λ n. p (suc n))
  Meets b (assign s) p =
      IsThere (assign_between ts (behind b) (first_of (p 1))) × Meets (p 0) s (λ n. p (suc n))

-- ---- what is asked of a form

-- each token of the one kinds is of the other
abbrev pub only_such : (TokenKind → Bool) → (TokenKind → Bool) → Bool
only_such may want = holds_everywhere (λ x. not (has_kind may x) || has_kind want x)

-- the test never holds
abbrev pub never_holds : TokenTest → Bool
never_holds t = holds_everywhere (λ x. not (t x))

-- the form has no parts
abbrev pub is_bare : {Row : Type 0} → Rhs Row → Bool
is_bare done = true
is_bare (punct k f) = is_bare f
is_bare (when_ t f) = is_bare f
is_bare (where_ t f) = is_bare f
is_bare _ = false

-- the form has one part
abbrev pub is_single : {Row : Type 0} → Rhs Row → Bool
is_single done = false
is_single (tok s may f) = is_bare f
is_single (punct k f) = is_single f
is_single (row r f) = is_bare f
is_single (opt c g f) = is_bare f
is_single (many c g f) = is_bare f
is_single (alt t a b f) = is_bare f
is_single (when_ t f) = is_single f
is_single (where_ t f) = is_single f

-- a form of tokens alone: at least so many, and at most so many
abbrev pub are_tokens : {Row : Type 0} → Rhs Row → Bool
are_tokens done = true
are_tokens (tok s may f) = are_tokens f
are_tokens (opt c g f) = are_tokens g && are_tokens f
are_tokens _ = false

abbrev pub least : {Row : Type 0} → Rhs Row → ℕ
least (tok s may f) = least f + 1
least (opt c g f) = least f
least _ = 0

abbrev pub most : {Row : Type 0} → Rhs Row → ℕ
most (tok s may f) = most f + 1
most (opt c g f) = most g + most f
most _ = 0

abbrev pub some : {A : Type 0} → Option A → Bool
some (Some a) = true
some None = false

-- operators of one token
abbrev pub is_binary : TokenKind → Bool
is_binary kind = some (or_else (listed arithmetic_ops kind) (listed logical_ops kind))

abbrev pub is_assign : TokenKind → Bool
is_assign kind = some (listed assign_ops kind)

abbrev pub is_greater : TokenKind → Bool
is_greater kind = same_kind kind k.Greater

-- tokens that begin with such a one
abbrev pub begins_with : {Row : Type 0} → (TokenKind → Bool) → Rhs Row → Bool
begins_with want (tok s may f) = only_such may want
begins_with want _ = false

-- one to three tokens that begin with `>`, or an operator of one token
abbrev pub spells_binary : {Row : Type 0} → Rhs Row → Bool
spells_binary f =
    begins_with (λ kind. is_greater kind || is_binary kind) f
    && (are_tokens f && (leb 1 (least f) && leb (most f) 3))

abbrev pub spells_assign : {Row : Type 0} → Rhs Row → Bool
spells_assign f =
    are_tokens f && (begins_with (λ kind. not (is_greater kind) && is_assign kind) f
    || (begins_with is_greater f && (leb 3 (least f) && leb (most f) 4)))

-- the form goes on with a node
abbrev pub goes_on : {Row : Type 0} → Rhs Row → Bool
goes_on (row r f) = true
goes_on _ = false

-- a form of tests alone
abbrev pub is_closed : {Row : Type 0} → Rhs Row → Bool
is_closed done = true
is_closed (when_ t f) = is_closed f
is_closed (where_ t f) = is_closed f
is_closed _ = false

-- what stands behind a form is such
abbrev pub closes : {Row : Type 0} → Rhs Row → TokenTest
closes done x = true
closes (tok s may f) x = closes f x
closes (punct k f) x = closes f x
closes (row r f) x = closes f x
closes (opt c g f) x = closes f x
closes (many c g f) x = closes f x
closes (alt t a b f) x = closes f x
closes (when_ t f) x = (not (is_closed f) || t x) && closes f x
closes (where_ t f) x = closes f x

-- the test that tells a turn
abbrev pub told : Predict → TokenTest
told (by_lookahead t) x = t x
told (greedy t) x = t x
told (by_predicate g) x = true

-- no turn is told behind a turn
abbrev pub stands_once : {Row : Type 0} → Predict → Rhs Row → Bool
stands_once c f = holds_everywhere (λ x. not (told c x && closes f x))

-- what a predicate tells of the place where a turn begins; a test of one token isn't asked here
abbrev pub Shown : Predict → List Key → ℕ → Type 0
Shown (by_lookahead t) K at = Unit {0}
Shown (greedy t) K at = Unit {0}
Shown (by_predicate g) K at = g K at ≡ true

abbrev pub IfClosed : Bool → Bool → Type 0
IfClosed true b = b ≡ true
IfClosed false b = Unit {0}

-- what predicates at the end of a form tell of the place behind it
abbrev pub Closes : {Row : Type 0} → Rhs Row → List Key → ℕ → Type 0
Closes done K at = Unit {0}
Closes (tok s may f) K at = Closes f K at
Closes (punct k f) K at = Closes f K at
Closes (row r f) K at = Closes f K at
Closes (opt c g f) K at = Closes f K at
Closes (many c g f) K at = Closes f K at
Closes (alt t a b f) K at = Closes f K at
Closes (when_ t f) K at = Closes f K at
Closes (where_ t f) K at = IfClosed (is_closed f) (t K at) × Closes f K at

-- no turn begins behind a turn, by predicates
abbrev pub StandsOnce : {Row : Type 0} → Predict → Rhs Row → Type 0
StandsOnce c f = (K : List Key) (at : ℕ) → Shown c K at → Closes f K at → ⊥

-- either of two tests, the other of which is asked only where the one fails
abbrev pub or_asks : Bool → (Bool → Bool) → Bool
or_asks true other = true
or_asks false other = other true

module _ {Row : Type 0} (yields : Row → Use → Bool) where
  -- the parts of each tree of the form are such; `near` tells that the part before them ends where they begin
  abbrev pub covers : Bool → Rhs Row → Needs → Bool
  covers near f rest = true
  covers near f never = false
  covers near done _ = false
  covers near (punct kind f) s = covers false f s
  covers near (when_ t f) s = or_asks (covers near f s) (λ b. never_holds t)
  covers near (where_ t f) s = covers near f s
  covers near (tok so may f) (any s) = covers true f s
  covers near (tok so may f) (leaf s) = covers true f s
  covers near (tok so may f) (word want s) = only_such may want && covers true f s
  covers near (tok so may f) (name s) = covers true f s
  covers near (tok so may f) (binary s) =
      near && (goes_on f && (spells_binary {Row = Row} (tok so may done) && covers true f s))
  covers near (tok so may f) (assign s) =
      near && (goes_on f && (spells_assign {Row = Row} (tok so may done) && covers true f s))
  covers near (tok so may f) _ = false
  covers near (row r f) (any s) = covers true f s
  covers near (row r f) (of u s) = yields r u && covers true f s
  covers near (row r f) _ = false
  covers near (opt c g f) (any s) = covers false f s
  covers near (opt c g f) (maybe n s) = covers false g n && covers false f s
  covers near (opt c g f) (name s) = covers false g (leaf rest) && covers false f s
  covers near (opt c g f) (hollow s) = is_bare g && covers false f s
  covers near (opt c g f) _ = false
  covers near (many c g f) (any s) = covers false f s
  covers near (many c g f) (list n s) = covers false g n && covers false f s
  covers near (many c g f) _ = false
  covers near (alt t a b f) (any s) = covers false f s
  covers near (alt t a b f) (maybe n s) =
      (is_bare a || covers false a n) && ((is_bare b || covers false b n) && covers false f s)
  covers near (alt t a b f) (group_of n s) = covers near a n && (covers near b n && covers false f s)
  covers near (alt t a b f) (either_of n m s) = covers near a n && (covers near b m && covers false f s)
  covers near (alt t a b f) (or_one n m s) = covers near a n && (is_single b && (covers near b m && covers false f s))
  covers near (alt t a b f) (binary s) =
      near && (goes_on f && (spells_binary a && (spells_binary b && covers false f s)))
  covers near (alt t a b f) (assign s) =
      near && (goes_on f && (spells_assign a && (spells_assign b && covers false f s)))
  covers near (alt t a b f) _ = false
