-- When the tests of a table bar no reading: at each choice, and at each part that may be absent, the tokens that may begin
-- the one and those that may begin the other are told apart. A test of the table alone, at each token by itself.
use Rattle.std.specs.Prelude.{◌≡◌, Bool, true, false, not, ◌&&◌, ◌||◌, Option}
use Rattle.grammar_theory.specs.Key.{TokenTest, Seen, has_kind, is}
use Rattle.grammar_theory.specs.Productions.{Predict, by_lookahead, greedy, by_predicate, Rhs, done, tok, punct, row, opt, many, alt, when_, where_, Production, refuse, make, choose, as_, pick, wrap}
use Rattle.grammar_theory.specs.Checks.{IsSteady}

-- what is claimed of the rows: the tokens that may begin one, those that may follow one, and whether it always takes a token
pub record Sets (Row : Type 0) : Type 0 where
  pub first : Row → TokenTest
  pub follow : Row → TokenTest
  pub solid : Row → Bool

-- no token, nor the end
abbrev pub none : TokenTest
none x = false

-- one test implies another
abbrev pub implies : Bool → Bool → Bool
implies a b = not a || b

-- a part may be absent before this token, by the written predicates
abbrev pub may_lack : Predict → TokenTest
may_lack (by_lookahead t) x = true
may_lack (greedy t) x = not (t x)
may_lack (by_predicate g) x = true

-- where a part is there, its test says so
abbrev pub tells_has : Predict → TokenTest
tells_has (by_lookahead t) x = t x
tells_has (greedy t) x = t x
tells_has (by_predicate g) x = true

-- where a part is absent, its test says so
abbrev pub tells_lack : Predict → TokenTest
tells_lack (by_lookahead t) x = not (t x)
tells_lack (greedy t) x = true
tells_lack (by_predicate g) x = true

module _ {Row : Type 0} (s : Sets Row) where
  -- the form may begin before this token, where `then_` tells what may stand behind it
  abbrev pub starts : Rhs Row → TokenTest → TokenTest
  starts done then_ x = then_ x
  starts (tok sort may f) then_ x = has_kind may x
  starts (punct k f) then_ x = is k x
  starts (row r f) then_ x = s.first r x || (not (s.solid r) && starts f then_ x)
  starts (opt c g f) then_ x = starts g none x || (may_lack c x && starts f then_ x)
  starts (many c g f) then_ x = starts g none x || (may_lack c x && starts f then_ x)
  starts (alt t a b f) then_ x = starts a (starts f then_) x || starts b (starts f then_) x
  starts (when_ t f) then_ x = t x && starts f then_ x
  starts (where_ t f) then_ x = starts f then_ x

  -- the rule may begin before this token
  abbrev pub rule_starts : {NodeKind : Type 0} → Production Row NodeKind → TokenTest → TokenTest
  rule_starts refuse then_ x = false
  rule_starts (make l f) then_ x = starts f then_ x
  rule_starts (choose t a b) then_ x = rule_starts a then_ x || rule_starts b then_ x
  rule_starts (as_ w a) then_ x = rule_starts a then_ x
  rule_starts (pick g a b) then_ x = rule_starts a then_ x || rule_starts b then_ x
  rule_starts (wrap l a c f) then_ x = rule_starts a none x

  -- the tests of the form tell at this token, and each row in it is followed by what may follow it
  abbrev pub tells : Rhs Row → TokenTest → TokenTest
  tells done then_ x = true
  tells (tok sort may f) then_ x = tells f then_ x
  tells (punct k f) then_ x = tells f then_ x
  tells (row r f) then_ x = implies (starts f then_ x) (s.follow r x) && tells f then_ x
  tells (opt c g f) then_ x =
      implies (starts g none x) (tells_has c x)
      && (implies (starts f then_ x) (tells_lack c x) && (tells g (starts f then_) x && tells f then_ x))
  tells (many c g f) then_ x =
      implies (starts g none x) (tells_has c x)
      && (implies (starts f then_ x) (tells_lack c x)
      && (tells g (λ y. starts g none y || starts f then_ y) x && tells f then_ x))
  tells (alt t a b f) then_ x =
      implies (starts a (starts f then_) x) (t x)
      && (implies (starts b (starts f then_) x) (not (t x))
      && (tells a (starts f then_) x && (tells b (starts f then_) x && tells f then_ x)))
  tells (when_ t f) then_ x = tells f then_ x
  tells (where_ t f) then_ x = tells f then_ x

  -- the tests of the rule tell at this token
  abbrev pub rule_tells : {NodeKind : Type 0} → Production Row NodeKind → TokenTest → TokenTest
  rule_tells refuse then_ x = true
  rule_tells (make l f) then_ x = tells f then_ x
  rule_tells (choose t a b) then_ x =
      implies (rule_starts a then_ x) (t x)
      && (implies (rule_starts b then_ x) (not (t x)) && (rule_tells a then_ x && rule_tells b then_ x))
  rule_tells (as_ w a) then_ x = rule_tells a then_ x
  rule_tells (pick g a b) then_ x = rule_tells a then_ x && rule_tells b then_ x
  rule_tells (wrap l a c f) then_ x =
      implies (starts f none x) (tells_has c x)
      && (implies (then_ x) (tells_lack c x)
      && (rule_tells a (λ y. starts f none y || then_ y) x && tells f (λ y. starts f none y || then_ y) x))

-- a table all of whose lists end and all of whose tests tell
pub record IsTold {Row NodeKind : Type 0} (rule : Row → Production Row NodeKind) (s : Sets Row) : Type 0 where
  pub steady : IsSteady rule s.solid
  pub firsts : (r : Row) (x : Option Seen) → rule_starts s (rule r) none x ≡ true → s.first r x ≡ true
  pub choices : (r : Row) (x : Option Seen) → rule_tells s (rule r) (s.follow r) x ≡ true
