-- The reader of a grammar, which obeys the tests that choose. It makes of each part what it is told to: plain trees, or typed ones.
use Rattle.std.specs.Prelude.{ℕ, zero, suc, ◌+◌, Bool, true, false, List, length}
use Rattle.grammar_theory.specs.Key.{Key, seen, has_kind, is}
use Rattle.grammar_theory.specs.Productions.{Predicate, test, Rhs, done, tok, punct, row, opt, many, alt, when_, where_, Production, refuse, make, choose, as_, pick, wrap}
use Rattle.grammar_theory.specs.Plain.{Makes}

-- what a reader answers: nothing, or what it made and the place behind it
pub data Out (Made : Type 0) : Type 0 where
  nothing : Out Made
  gives : Made → ℕ → Out Made

-- the answer, and then more from its place on
abbrev pub and_then : {A B : Type 0} → Out A → (A → ℕ → Out B) → Out B
and_then nothing f = nothing
and_then (gives a to) f = f a to

-- the answer, changed
abbrev pub changed : {A B : Type 0} → (A → B) → Out A → Out B
changed f nothing = nothing
changed f (gives a to) = gives (f a) to

-- the answer where the test held
abbrev pub only_if : {A : Type 0} → Bool → Out A → Out A
only_if true o = o
only_if false o = nothing

-- one of two answers
abbrev pub either : {A : Type 0} → Bool → Out A → Out A → Out A
either true a b = a
either false a b = b

-- the turns of a list, at most so many
unfoldable pub read_turns : {NodeKind Made : Type 0} → Makes NodeKind Made → List Key → Predicate → (ℕ → Out Made) → ℕ → ℕ → Out Made
read_turns m K t one zero at = either (t K at) nothing (gives m.of_nil at)
read_turns m K t one (suc n) at =
    either (t K at) (and_then (one at) (λ q mid. changed (m.of_turn q) (read_turns m K t one n mid))) (gives m.of_nil at)

-- the turns behind an operand that was read from a place on, at most so many
unfoldable pub read_wraps : {NodeKind Made : Type 0} → Makes NodeKind Made → List Key → NodeKind → Predicate → (ℕ → Out Made) → ℕ → ℕ → Made → ℕ
    → Out Made
read_wraps m K l t parts from zero q at = either (t K at) nothing (gives q at)
read_wraps m K l t parts from (suc n) q at =
    either (t K at)
    (and_then (parts at) (λ ps to. read_wraps m K l t parts from n (m.of_node l from to (m.of_cons q ps)) to)) (gives q at)

module _ {Row NodeKind Made : Type 0} (m : Makes NodeKind Made) (K : List Key) where
  -- the parts of a node
  abbrev pub read_form : (Row → ℕ → Out Made) → Rhs Row → ℕ → Out Made
  read_form below done at = gives m.of_nil at
  read_form below (tok s may f) at =
      only_if (has_kind may (seen K at)) (changed (m.of_cons (m.of_leaf s at)) (read_form below f (at + 1)))
  read_form below (punct k f) at = only_if (is k (seen K at)) (changed (m.of_mark at) (read_form below f (at + 1)))
  read_form below (row r f) at = and_then (below r at) (λ q mid. changed (m.of_cons q) (read_form below f mid))
  read_form below (opt c g f) at =
      and_then (either (test c K at) (read_form below g at) (gives m.of_nil at))
      (λ q mid. changed (m.of_cons q) (read_form below f mid))
  read_form below (many c g f) at =
      and_then (read_turns m K (test c) (read_form below g) (length K) at)
      (λ q mid. changed (m.of_cons q) (read_form below f mid))
  read_form below (alt t a b f) at =
      and_then (either (t (seen K at)) (read_form below a at) (read_form below b at))
      (λ q mid. changed (m.of_cons q) (read_form below f mid))
  read_form below (when_ t f) at = only_if (t (seen K at)) (read_form below f at)
  read_form below (where_ t f) at = only_if (t K at) (read_form below f at)

  -- a rule
  abbrev pub read_rule : (Row → ℕ → Out Made) → Production Row NodeKind → ℕ → Out Made
  read_rule below refuse at = nothing
  read_rule below (make l f) at = and_then (read_form below f at) (λ ps to. gives (m.of_node l at to ps) to)
  read_rule below (choose t a b) at = either (t (seen K at)) (read_rule below a at) (read_rule below b at)
  read_rule below (as_ w a) at = changed (m.of_via w) (read_rule below a at)
  read_rule below (pick g a b) at = either (g K at) (read_rule below a at) (read_rule below b at)
  read_rule below (wrap l a c f) at =
      and_then (read_rule below a at) (λ q mid. read_wraps m K l (test c) (read_form below f) at (length K) q mid)

  -- a row, with at most `room` rows on a path
  unfoldable pub read_row : (Row → Production Row NodeKind) → ℕ → Row → ℕ → Out Made
  read_row rule zero r at = nothing
  read_row rule (suc room) r at = read_rule (read_row rule room) (rule r) at
