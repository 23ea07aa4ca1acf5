-- The rows of operators are their levels over `power`.
use Rattle.std.specs.Prelude.{Bool, true, false, List, length, take, Result, Ok, Err}
use Rattle.std.proofs.Common.{◌≡◌, ℕ, refl, sym, ap, subst}
use Rattle.es_token.specs.declared.token.TokenKind.TheVariants as k
use Rattle.grammar_theory.specs.declared.error.SyntaxError.{SyntaxError}
use Rattle.grammar_theory.specs.declared.error.Lang.{Lang}
use Rattle.grammar_theory.specs.declared.error.Lang.TheVariants as lang
use Rattle.grammar_theory.specs.Languages.{typed}
use Rattle.grammar_theory.specs.Key.{Key}
use Rattle.grammar_theory.specs.Productions.{Production, by_predicate, wrap}
use Rattle.grammar_theory.specs.Reader.{Out}
use Rattle.es_grammar.specs.types.Words.{only}
use Rattle.es_grammar.specs.types.Expressions.{is_equality}
use Rattle.es_grammar.specs.declared.rows.Context.{Context}
use Rattle.es_grammar.specs.declared.rows.Row.{Row}
use Rattle.es_grammar.specs.declared.rows.NodeKind.{NodeKind}
use Rattle.es_grammar.specs.declared.rows.Row.TheVariants.{AndRow, BitOrRow, BitXorRow, BitAndRow, EqualityRow, RelationRow}
use Rattle.es_grammar.specs.declared.rows.NodeKind.TheVariants.{Binary, TypedBinary}
use Rattle.es_grammar.specs.Expressions.{level, power, product, sum, shifted, shift, relation, equality, bit_and, bit_xor, bit_or, and_, coalesce, binary, conditional, comparison_in, tight_in, asserted_or, opens_comparison}
use Rattle.es_syntax.specs.declared.entry.Entry.{Entry}
use Rattle.es_syntax.specs.Forest.{entries_of, Keeps}
use Rattle.es_syntax.proofs.Forests.{keeps_all, keeps_before}
use Rattle.es_rules.specs.declared.cursor.Cursor.{Cursor}
use Rattle.es_rules.specs.declared.cursor.Place.{Place}
use Rattle.es_rules.specs.Bounded.{Read, rule_at}
use Rattle.es_rules.specs.Steps.{IsRead}
use Rattle.es_expression_rules.specs.Levels.{arithmetic_over, shift_over, related, relation_over, behind_types, comparing_over, bitwise_over, coalesce_over, logical_over, conditional_over, assignment_over, operators_over}

module _ (l : Lang) (c : Context) where
  pub sum_same : arithmetic_over c (power l c) ≡ sum l c
  unfolding sum product
  sum_same = refl

  pub shift_same : shift_over l c (arithmetic_over c (power l c)) ≡ shift l c
  unfolding shift shifted sum product
  shift_same = refl

relation_shift : (l : Lang) (c : Context) → behind_types l c (relation_over l c (shift l c)) ≡ relation l c
unfolding relation shifted
relation_shift lang.Es c = refl
relation_shift lang.Jsx c = refl
relation_shift lang.Typescript c = refl
relation_shift lang.Tsx c = refl
relation_shift lang.Wide c = refl

module _ (l : Lang) (c : Context) where
  pub relation_same : behind_types l c (relation_over l c (shift_over l c (arithmetic_over c (power l c))))
      ≡ relation l c
  unfolding shift shifted sum product
  relation_same = relation_shift l c

  pub equality_same : comparing_over l c (arithmetic_over c (power l c)) ≡ equality l c
  unfolding equality
  equality_same = ap (level is_equality (RelationRow c)) relation_same

  pub bit_and_same : level (only k.Ampersand) (EqualityRow c) (comparing_over l c (arithmetic_over c (power l c)))
      ≡ bit_and l c
  unfolding bit_and
  bit_and_same = ap (level (only k.Ampersand) (EqualityRow c)) equality_same

  pub bit_xor_same : level (only k.Caret) (BitAndRow c) (level (only k.Ampersand) (EqualityRow c)
      (comparing_over l c (arithmetic_over c (power l c)))) ≡ bit_xor l c
  unfolding bit_xor
  bit_xor_same = ap (level (only k.Caret) (BitAndRow c)) bit_and_same

  pub bit_or_same : bitwise_over c (comparing_over l c (arithmetic_over c (power l c))) ≡ bit_or l c
  unfolding bit_or
  bit_or_same = ap (level (only k.Bar) (BitXorRow c)) bit_xor_same

  pub conditional_same : operators_over l c (power l c) ≡ assignment_over c (conditional l c)
  unfolding conditional binary and_ coalesce
  conditional_same = ap (λ a. assignment_over c (conditional_over l c (logical_over c a))) bit_or_same

-- what stands behind a type, in a language that is known
module _ (c : Context) (a : Production Row NodeKind) where
  pub behind_plain : (l : Lang) → typed l ≡ false → a ≡ behind_types l c a
  behind_plain l e = rw e refl

  pub behind_typed : (l : Lang) → typed l ≡ true → shift_over l c a ≡ behind_types l c a
  behind_typed l e = rw e refl

-- a comparison, in a language that is known
module _ (c : Context) (a : Production Row NodeKind) where
  pub related_plain : (l : Lang) → typed l ≡ false
      → wrap Binary a (by_predicate (opens_comparison l c)) (comparison_in c) ≡ related l c a
  related_plain l e = rw e refl

  pub related_typed : (l : Lang) → typed l ≡ true
      → wrap TypedBinary a (by_predicate (opens_comparison l c)) (asserted_or (tight_in c)) ≡ related l c a
  related_typed l e = rw e refl

module _ (keeps : Bool) (K : List Key) (below : Row → ℕ → Out Read) where
  -- the same rule reads the same, from the same place on, behind the same entries
  pub read_as : (from to : ℕ) (base back : List Entry) (new : Cursor) (r : Result ℕ SyntaxError)
      (a b : Production Row NodeKind)
      → from ≡ to → base ≡ back → a ≡ b
      → IsRead keeps (rule_at K below a from) base new r → IsRead keeps (rule_at K below b to) back new r
  read_as from to base back new r a b place there same read =
      let P : Production Row NodeKind → Type 0 = λ a. IsRead keeps (rule_at K below a to) back new r in
      let Q : List Entry → Type 0 = λ es. IsRead keeps (rule_at K below a to) es new r in
      let S : ℕ → Type 0 = λ n. IsRead keeps (rule_at K below a n) base new r in
      subst P same (subst Q there (subst S place read))

  -- an operand, and what stands behind it
  pub read_behind : (place : Place) (at : ℕ) (base : List Entry) (mid new : Cursor) (operand r : Result ℕ SyntaxError)
      (p a b : Production Row NodeKind) → place.token ≡ at → place.entry ≡ length base → a ≡ b
      → ((es : List Entry) → length es ≡ place.entry → IsRead keeps (rule_at K below p place.token) es mid operand
      → IsRead keeps (rule_at K below a place.token) es new r)
      → IsRead keeps (rule_at K below p at) base mid operand → IsRead keeps (rule_at K below b at) base new r
  read_behind place at base mid new operand r p a b token entry same behind read =
      read_as place.token at base base new r a b token refl same
      (behind base (sym entry) (read_as at place.token base base mid operand p p (sym token) refl refl read))

-- what stood there before stands there still
pub read_keeps : (keeps : Bool) (out : Out Read) (base : List Entry) (new : Cursor) (r : Result ℕ SyntaxError)
    → IsRead keeps out base new r → Keeps base new.row
read_keeps true out base new (Ok h) read =
    subst (λ (es : List Entry). Keeps base es) (sym read.1.1) (keeps_before base (entries_of read.1.0))
read_keeps false out base new (Ok h) read = subst (λ (es : List Entry). Keeps base es) (sym read.1) (keeps_all base)
read_keeps keeps out base new (Err e) read = read.0

pub back_there : (n : ℕ) (base es : List Entry) → length base ≡ n → Keeps base es → take n es ≡ base
back_there n base es e kept = subst (λ n. take n es ≡ base) e kept
