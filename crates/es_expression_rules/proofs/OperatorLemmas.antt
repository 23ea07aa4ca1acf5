-- A token of no kind of a group begins no turn of its levels.
use Rattle.std.specs.Prelude.{Bool, true, false, not, ◌&&◌, ◌||◌, List, Option}
use Rattle.std.proofs.Common.{◌≡◌, ℕ, refl}
use Rattle.es_token.specs.declared.token.TokenKind.TheVariants as k
use Rattle.grammar_theory.specs.declared.error.Lang.{Lang}
use Rattle.grammar_theory.specs.declared.error.Lang.TheVariants as lang
use Rattle.grammar_theory.specs.Key.{Key, Seen, TokenTest, seen, has_kind, is}
use Rattle.grammar_theory.proofs.EachKind.{holds_everywhere, holds_of_each}
use Rattle.es_grammar.specs.types.Words.{only, is_near}
use Rattle.es_grammar.specs.types.Expressions.{is_product, is_sum, is_equality, is_relation, is_assignment, opens_greater, opens_right_shift, opens_right_assignment, opens_shift, opens_assignment}
use Rattle.es_grammar.specs.declared.rows.Context.{Context}
use Rattle.es_grammar.specs.Expressions.{is_assertion_word, opens_assertion, is_tight, opens_shift_in, opens_comparison}
use Rattle.es_shared_rules.specs.predicates.Operators.{is_operator_word, is_arithmetic, is_comparing, is_bitwise, is_logical, is_operator}

-- no token of which the narrow test holds fails the wide one
abbrev covers : TokenTest → TokenTest → TokenTest
covers wide narrow x = wide x || not (narrow x)

outside : (wide narrow : Bool) → (wide || not narrow) ≡ true → wide ≡ false → narrow ≡ false
outside true narrow e none = absurd (let bad : ⊥ = cc in bad)
outside false true e none = absurd (let bad : ⊥ = cc in bad)
outside false false e none = refl

-- the narrow test fails where the wide one does
covered : (wide narrow : TokenTest) → holds_everywhere (covers wide narrow) ≡ true → (x : Option Seen)
    → wide x ≡ false → narrow x ≡ false
covered wide narrow e x none = outside (wide x) (narrow x) (holds_of_each (covers wide narrow) e x) none

module _ (x : Option Seen) where
  pub no_product : has_kind is_arithmetic x ≡ false → has_kind is_product x ≡ false
  unfolding is_arithmetic is_product holds_everywhere
  no_product = covered (has_kind is_arithmetic) (has_kind is_product) refl x

  pub no_sum : has_kind is_arithmetic x ≡ false → has_kind is_sum x ≡ false
  unfolding is_arithmetic is_sum holds_everywhere
  no_sum = covered (has_kind is_arithmetic) (has_kind is_sum) refl x

  no_greater : has_kind is_comparing x ≡ false → is k.Greater x ≡ false
  unfolding is_comparing is_operator_word holds_everywhere
  no_greater = covered (has_kind is_comparing) (is k.Greater) refl x

  no_left : has_kind is_comparing x ≡ false → is k.LessLess x ≡ false
  unfolding is_comparing is_operator_word holds_everywhere
  no_left = covered (has_kind is_comparing) (is k.LessLess) refl x

  no_relation : has_kind is_comparing x ≡ false → has_kind is_relation x ≡ false
  unfolding is_comparing is_operator_word is_relation holds_everywhere
  no_relation = covered (has_kind is_comparing) (has_kind is_relation) refl x

  no_tight : has_kind is_comparing x ≡ false → has_kind is_tight x ≡ false
  unfolding is_comparing is_operator_word is_tight is_relation is_sum is_product holds_everywhere
  no_tight = covered (has_kind is_comparing) (has_kind is_tight) refl x

  no_word : has_kind is_comparing x ≡ false → has_kind is_assertion_word x ≡ false
  unfolding is_comparing is_operator_word is_assertion_word holds_everywhere
  no_word = covered (has_kind is_comparing) (has_kind is_assertion_word) refl x

  pub no_equality : has_kind is_comparing x ≡ false → has_kind is_equality x ≡ false
  unfolding is_comparing is_operator_word is_equality holds_everywhere
  no_equality = covered (has_kind is_comparing) (has_kind is_equality) refl x

  pub no_and : has_kind is_bitwise x ≡ false → has_kind (only k.Ampersand) x ≡ false
  unfolding is_bitwise holds_everywhere
  no_and = covered (has_kind is_bitwise) (has_kind (only k.Ampersand)) refl x

  pub no_xor : has_kind is_bitwise x ≡ false → has_kind (only k.Caret) x ≡ false
  unfolding is_bitwise holds_everywhere
  no_xor = covered (has_kind is_bitwise) (has_kind (only k.Caret)) refl x

  pub no_or : has_kind is_bitwise x ≡ false → has_kind (only k.Bar) x ≡ false
  unfolding is_bitwise holds_everywhere
  no_or = covered (has_kind is_bitwise) (has_kind (only k.Bar)) refl x

  pub no_coalesce : has_kind is_logical x ≡ false → is k.QuestionQuestion x ≡ false
  unfolding is_logical holds_everywhere
  no_coalesce = covered (has_kind is_logical) (is k.QuestionQuestion) refl x

  pub no_both : has_kind is_logical x ≡ false → has_kind (only k.AmpersandAmpersand) x ≡ false
  unfolding is_logical holds_everywhere
  no_both = covered (has_kind is_logical) (has_kind (only k.AmpersandAmpersand)) refl x

  pub no_either : has_kind is_logical x ≡ false → has_kind (only k.BarBar) x ≡ false
  unfolding is_logical holds_everywhere
  no_either = covered (has_kind is_logical) (has_kind (only k.BarBar)) refl x

  -- a token of no operator is of no group
  pub no_arithmetic : has_kind is_operator x ≡ false → has_kind is_arithmetic x ≡ false
  unfolding is_operator is_operator_word is_arithmetic holds_everywhere
  no_arithmetic = covered (has_kind is_operator) (has_kind is_arithmetic) refl x

  pub no_comparing : has_kind is_operator x ≡ false → has_kind is_comparing x ≡ false
  unfolding is_operator is_operator_word is_comparing holds_everywhere
  no_comparing = covered (has_kind is_operator) (has_kind is_comparing) refl x

  pub no_bitwise : has_kind is_operator x ≡ false → has_kind is_bitwise x ≡ false
  unfolding is_operator is_operator_word is_bitwise holds_everywhere
  no_bitwise = covered (has_kind is_operator) (has_kind is_bitwise) refl x

  pub no_logical : has_kind is_operator x ≡ false → has_kind is_logical x ≡ false
  unfolding is_operator is_operator_word is_logical holds_everywhere
  no_logical = covered (has_kind is_operator) (has_kind is_logical) refl x

  pub no_question : has_kind is_operator x ≡ false → is k.Question x ≡ false
  unfolding is_operator is_operator_word holds_everywhere
  no_question = covered (has_kind is_operator) (is k.Question) refl x

  no_equal : has_kind is_operator x ≡ false → has_kind is_assignment x ≡ false
  unfolding is_operator is_operator_word is_assignment holds_everywhere
  no_equal = covered (has_kind is_operator) (has_kind is_assignment) refl x

-- one test holds, another doesn't
and_false : (b : Bool) → b && false ≡ false
and_false true = refl
and_false false = refl

module _ (K : List Key) (at : ℕ) where
  plain_shift : has_kind is_comparing (seen K at) ≡ false → opens_shift K at ≡ false
  unfolding opens_shift opens_right_shift
  plain_shift none = rw (no_left (seen K at) none, no_greater (seen K at) none) refl

  pub no_shift : (l : Lang) → has_kind is_comparing (seen K at) ≡ false → opens_shift_in l K at ≡ false
  unfolding opens_shift_in
  no_shift lang.Es none = plain_shift none
  no_shift lang.Jsx none = plain_shift none
  no_shift lang.Typescript none = rw (plain_shift none) refl
  no_shift lang.Tsx none = rw (plain_shift none) refl
  no_shift lang.Wide none = rw (plain_shift none) refl

  pub no_comparison : (l : Lang) (c : Context) → has_kind is_comparing (seen K at) ≡ false
      → opens_comparison l c K at ≡ false
  unfolding opens_comparison opens_greater opens_assertion
  no_comparison lang.Es c none = rw (no_greater (seen K at) none, no_relation (seen K at) none) refl
  no_comparison lang.Jsx c none = rw (no_greater (seen K at) none, no_relation (seen K at) none) refl
  no_comparison lang.Typescript c none =
      rw (
        no_greater (seen K at) none,
        no_tight (seen K at) none,
        no_word (seen K at) none,
        and_false (is_near (seen K at)),
      ) refl
  no_comparison lang.Tsx c none =
      rw (
        no_greater (seen K at) none,
        no_tight (seen K at) none,
        no_word (seen K at) none,
        and_false (is_near (seen K at)),
      ) refl
  no_comparison lang.Wide c none =
      rw (
        no_greater (seen K at) none,
        no_tight (seen K at) none,
        no_word (seen K at) none,
        and_false (is_near (seen K at)),
      ) refl

  pub no_assignment : has_kind is_operator (seen K at) ≡ false → opens_assignment K at ≡ false
  unfolding opens_assignment opens_right_assignment
  no_assignment none =
      rw (no_equal (seen K at) none, no_greater (seen K at) (no_comparing (seen K at) none)) refl
