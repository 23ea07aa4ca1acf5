-- Where no operator of a group stands behind an operand, the rule with the group's levels reads what the operand's does.
use Rattle.std.specs.Prelude.{Bool, true, false, List, length, Result, Ok, Err}
use Rattle.std.proofs.Common.{◌≡◌, ℕ, zero, suc, refl, sym, ap, subst}
use Rattle.es_token.specs.declared.token.TokenKind.{TokenKind}
use Rattle.es_token.specs.declared.token.TokenKind.TheVariants as k
use Rattle.grammar_theory.specs.declared.error.SyntaxError.{SyntaxError}
use Rattle.grammar_theory.specs.declared.error.Lang.{Lang}
use Rattle.grammar_theory.specs.declared.error.Lang.TheVariants as lang
use Rattle.grammar_theory.specs.Key.{Key, seen, has_kind, is}
use Rattle.grammar_theory.specs.Productions.{Predicate, Predict, test, as_kind, as_there, greedy, by_predicate, done, tok, punct, row, opt, alt, when_, Rhs, Production, choose, wrap}
use Rattle.grammar_theory.specs.Reader.{Out, nothing, gives, and_then, either}
use Rattle.grammar_theory.proofs.OutLemmas.{either_false, then_gives}
use Rattle.es_grammar.specs.types.Words.{only, is_other}
use Rattle.es_grammar.specs.types.Expressions.{is_product, is_sum, is_equality, is_assignment, joins, no_mix, opens_assignment}
use Rattle.es_grammar.specs.declared.rows.Context.{Context}
use Rattle.es_grammar.specs.declared.rows.Row.{Row}
use Rattle.es_grammar.specs.declared.rows.Row.TheVariants.{AssignmentRow, AndRow, BitOrRow, BitXorRow, BitAndRow, EqualityRow, RelationRow, SumRow, ProductRow, PowerRow}
use Rattle.es_grammar.specs.declared.rows.NodeKind.{NodeKind}
use Rattle.es_grammar.specs.declared.rows.NodeKind.TheVariants.{Assignment, Binary, Conditional, TypedBinary}
use Rattle.es_grammar.specs.Rows.{without_colon}
use Rattle.es_grammar.specs.Expressions.{level, private_in, comparison_in, tight_in, asserted_or, opens_shift_in, opens_comparison}
use Rattle.es_shared_rules.specs.predicates.Operators.{is_arithmetic, is_comparing, is_bitwise, is_logical, is_operator}
use Rattle.es_syntax.specs.declared.entry.Entry.{Entry}
use Rattle.es_rules.specs.declared.cursor.Cursor.{Cursor}
use Rattle.es_rules.specs.Bounded.{Read, form_at, wraps_at, rule_at}
use Rattle.es_rules.specs.Steps.{single, IsRead}
use Rattle.es_expression_rules.specs.Levels.{arithmetic_over, shift_over, related, relation_over, behind_types, comparing_over, bitwise_over, coalesce_over, logical_over, conditional_over, assignment_over, operators_over}
use Rattle.es_expression_rules.proofs.OperatorLemmas.{no_product, no_sum, no_equality, no_and, no_xor, no_or, no_coalesce, no_both, no_either, no_arithmetic, no_comparing, no_bitwise, no_logical, no_question, no_shift, no_comparison, no_assignment}

-- no turn stands behind an operand
no_turns : (K : List Key) (l : NodeKind) (t : Predicate) (parts : ℕ → Out Read) (from n : ℕ) (q : Read) (at : ℕ)
    → t K at ≡ false → wraps_at K l t parts from n q at ≡ gives q at
unfolding wraps_at
no_turns K l t parts from zero q at e = rw e refl
no_turns K l t parts from (suc n) q at e = rw e refl

module _ (keeps : Bool) (K : List Key) (below : Row → ℕ → Out Read) (from : ℕ) (base : List Entry) (new : Cursor)
    (r : Result ℕ SyntaxError) where
  -- a rule reads this, behind what stood there
  abbrev pub IsReadBy : Production Row NodeKind → Type 0
  IsReadBy a = IsRead keeps (rule_at K below a from) base new r

  -- no turn stands there: the operand alone is read
  pub wrap_absent : (l : NodeKind) (a : Production Row NodeKind) (c : Predict) (f : Rhs Row) → test c K new.at ≡ false
      → IsReadBy a → IsReadBy (wrap l a c f)
  wrap_absent l a c f none read =
      alone r read
    where
      behind_at : Read → ℕ → Out Read
      behind_at q mid = wraps_at K l (test c) (form_at K below f) from (length K) q mid

      alone : (r : Result ℕ SyntaxError) → IsRead keeps (rule_at K below a from) base new r
          → IsRead keeps (rule_at K below (wrap l a c f) from) base new r
      alone (Ok h) read = (
        read.0,
        read.1,
        then_gives (rule_at K below a from) behind_at (single read.0 h) new.at
            (gives (single read.0 h) new.at) read.2
            (no_turns K l (test c) (form_at K below f) from (length K) (single read.0 h) new.at none),
      )
      alone (Err e) read = (read.0, λ memory. ap (λ o. and_then o behind_at) (read.1 memory))

  level_absent : (may : TokenKind → Bool) (q : Row) (a : Production Row NodeKind) → has_kind may (seen K new.at) ≡ false
      → IsReadBy a → IsReadBy (level may q a)
  unfolding level
  level_absent may q a none read =
      wrap_absent Binary a (greedy (has_kind may)) (tok as_kind may (row q done)) none read

  pub arithmetic_absent : (c : Context) (a : Production Row NodeKind) → has_kind is_arithmetic (seen K new.at) ≡ false
      → IsReadBy a → IsReadBy (arithmetic_over c a)
  arithmetic_absent c a none read =
      level_absent is_sum (ProductRow c) (level is_product (PowerRow c) a) (no_sum (seen K new.at) none)
      (level_absent is_product (PowerRow c) a (no_product (seen K new.at) none) read)

  shift_absent : (l : Lang) (c : Context) (a : Production Row NodeKind) → has_kind is_comparing (seen K new.at) ≡ false
      → IsReadBy a → IsReadBy (shift_over l c a)
  shift_absent l c a none read =
      wrap_absent Binary a (by_predicate (opens_shift_in l))
      (alt (is k.Greater)
      (tok as_kind (only k.Greater) (tok as_there (only k.Greater)
      (opt (by_predicate (joins k.Greater)) (tok as_there (only k.Greater) done) done)))
      (tok as_kind (only k.LessLess) done) (row (SumRow c) done))
      (no_shift K new.at l none) read

  -- no private name stands first: the other rule is chosen
  pub other_chosen : (p a : Production Row NodeKind) → is k.PrivateName (seen K from) ≡ false
      → IsReadBy a → IsReadBy (choose (is k.PrivateName) p a)
  other_chosen p a named read =
      let P : Out Read → Type 0 = λ o. IsRead keeps o base new r in
      subst P (sym (either_false (is k.PrivateName (seen K from)) (rule_at K below p from) (rule_at K below a from)
      (rule_at K below a from) named refl)) read

  -- one stands first: what follows it is read as behind the rule that is chosen
  pub private_chosen : (l : Lang) (c : Context) (p a : Production Row NodeKind) → is k.PrivateName (seen K from) ≡ true
      → IsReadBy (related l c p) → IsReadBy (related l c (choose (is k.PrivateName) p a))
  private_chosen lang.Es c p a named read = rw named read
  private_chosen lang.Jsx c p a named read = rw named read
  private_chosen lang.Typescript c p a named read = rw named read
  private_chosen lang.Tsx c p a named read = rw named read
  private_chosen lang.Wide c p a named read = rw named read

  related_absent : (l : Lang) (c : Context) (a : Production Row NodeKind)
      → has_kind is_comparing (seen K new.at) ≡ false
      → IsReadBy a → IsReadBy (related l c a)
  related_absent lang.Es c a none read =
      wrap_absent Binary a (by_predicate (opens_comparison lang.Es c)) (comparison_in c)
      (no_comparison K new.at lang.Es c none) read
  related_absent lang.Jsx c a none read =
      wrap_absent Binary a (by_predicate (opens_comparison lang.Jsx c)) (comparison_in c)
      (no_comparison K new.at lang.Jsx c none) read
  related_absent lang.Typescript c a none read =
      wrap_absent TypedBinary a (by_predicate (opens_comparison lang.Typescript c)) (asserted_or (tight_in c))
      (no_comparison K new.at lang.Typescript c none) read
  related_absent lang.Tsx c a none read =
      wrap_absent TypedBinary a (by_predicate (opens_comparison lang.Tsx c)) (asserted_or (tight_in c))
      (no_comparison K new.at lang.Tsx c none) read
  related_absent lang.Wide c a none read =
      wrap_absent TypedBinary a (by_predicate (opens_comparison lang.Wide c)) (asserted_or (tight_in c))
      (no_comparison K new.at lang.Wide c none) read

  behind_absent : (l : Lang) (c : Context) (a : Production Row NodeKind) → has_kind is_comparing (seen K new.at) ≡ false
      → IsReadBy a → IsReadBy (behind_types l c a)
  behind_absent lang.Es c a none read = read
  behind_absent lang.Jsx c a none read = read
  behind_absent lang.Typescript c a none read = shift_absent lang.Typescript c a none read
  behind_absent lang.Tsx c a none read = shift_absent lang.Tsx c a none read
  behind_absent lang.Wide c a none read = shift_absent lang.Wide c a none read

  pub comparing_absent : (l : Lang) (c : Context) (a : Production Row NodeKind)
      → has_kind is_comparing (seen K new.at) ≡ false
      → is k.PrivateName (seen K from) ≡ false → IsReadBy a → IsReadBy (comparing_over l c a)
  comparing_absent l c a none named read =
      level_absent is_equality (RelationRow c) (behind_types l c (relation_over l c (shift_over l c a)))
      (no_equality (seen K new.at) none)
      (behind_absent l c (relation_over l c (shift_over l c a)) none
      (related_absent l c (choose (is k.PrivateName) (private_in c) (shift_over l c a)) none
      (other_chosen (private_in c) (shift_over l c a) named (shift_absent l c a none read))))

  pub bitwise_absent : (c : Context) (a : Production Row NodeKind) → has_kind is_bitwise (seen K new.at) ≡ false
      → IsReadBy a → IsReadBy (bitwise_over c a)
  bitwise_absent c a none read =
      let first = level (only k.Ampersand) (EqualityRow c) a in
      let second = level (only k.Caret) (BitAndRow c) first in
      level_absent (only k.Bar) (BitXorRow c) second (no_or (seen K new.at) none)
      (level_absent (only k.Caret) (BitAndRow c) first (no_xor (seen K new.at) none)
      (level_absent (only k.Ampersand) (EqualityRow c) a (no_and (seen K new.at) none) read))

  coalesce_absent : (c : Context) (a : Production Row NodeKind) → has_kind is_logical (seen K new.at) ≡ false
      → IsReadBy a → IsReadBy (coalesce_over c a)
  coalesce_absent c a none read =
      wrap_absent Binary a (greedy (is k.QuestionQuestion))
      (tok as_kind (only k.QuestionQuestion) (row (BitOrRow c) (when_ no_mix done)))
      (no_coalesce (seen K new.at) none) read

  pub logical_absent : (c : Context) (a : Production Row NodeKind) → has_kind is_logical (seen K new.at) ≡ false
      → IsReadBy a → IsReadBy (logical_over c a)
  logical_absent c a none read =
      let second = level (only k.AmpersandAmpersand) (BitOrRow c) (coalesce_over c a) in
      level_absent (only k.BarBar) (AndRow c) second (no_either (seen K new.at) none)
      (level_absent (only k.AmpersandAmpersand) (BitOrRow c) (coalesce_over c a) (no_both (seen K new.at) none)
      (coalesce_absent c a none read))

  conditional_absent : (l : Lang) (c : Context) (a : Production Row NodeKind)
      → has_kind is_operator (seen K new.at) ≡ false
      → IsReadBy a → IsReadBy (conditional_over l c a)
  conditional_absent l c a none read =
      wrap_absent Conditional a (greedy (is k.Question))
      (punct k.Question (row (AssignmentRow (without_colon l c)) (punct k.Colon (row (AssignmentRow c) (when_
      (is_other k.Question) done)))))
      (no_question (seen K new.at) none) read

  assignment_absent : (c : Context) (a : Production Row NodeKind) → has_kind is_operator (seen K new.at) ≡ false
      → IsReadBy a → IsReadBy (assignment_over c a)
  assignment_absent c a none read =
      wrap_absent Assignment a (by_predicate opens_assignment)
      (alt (is k.Greater)
      (tok as_kind (only k.Greater) (tok as_there (only k.Greater)
      (opt (by_predicate (joins k.Greater)) (tok as_there (only k.Greater) done) (tok as_there (only k.Equal) done))))
      (tok as_kind is_assignment done) (row (AssignmentRow c) done))
      (no_assignment K new.at none) read

  -- no operator at all stands there
  pub operators_absent : (l : Lang) (c : Context) (a : Production Row NodeKind)
      → has_kind is_operator (seen K new.at) ≡ false
      → is k.PrivateName (seen K from) ≡ false → IsReadBy a → IsReadBy (operators_over l c a)
  operators_absent l c a none named read =
      let first = arithmetic_over c a in
      let second = comparing_over l c first in
      let third = bitwise_over c second in
      let fourth = logical_over c third in
      assignment_absent c (conditional_over l c fourth) none
      (conditional_absent l c fourth none
      (logical_absent c third (no_logical (seen K new.at) none)
      (bitwise_absent c second (no_bitwise (seen K new.at) none)
      (comparing_absent l c first (no_comparing (seen K new.at) none) named
      (arithmetic_absent c a (no_arithmetic (seen K new.at) none) read)))))
