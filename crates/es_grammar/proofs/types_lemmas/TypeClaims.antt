-- The tests of the types' table bar no reading. What is claimed of the rows is checked by computing it at each kind of
-- token.
use Rattle.std.specs.Prelude.{Bool, true, false, ◌||◌}
use Rattle.std.proofs.Common.{◌≡◌, refl}
use Rattle.es_token.specs.declared.token.TokenKind.TheVariants as k
use Rattle.grammar_theory.specs.Key.{TokenTest, is, has_kind}
use Rattle.grammar_theory.specs.Checks.{rule_takes, rule_parts_take}
use Rattle.grammar_theory.specs.Tells.{Sets, IsTold, none, implies, rule_starts, rule_tells}
use Rattle.grammar_theory.proofs.EachKind.{holds_everywhere, holds_of_each}
use Rattle.grammar_theory.proofs.OutLemmas.{clash}
use Rattle.grammar_theory.proofs.FreeLemmas.{holds_then}
use Rattle.grammar_theory.proofs.Theorems.{IsGrammar}
use Rattle.es_grammar.specs.declared.types.rows.TypeRow.{TypeRow as Row}
use Rattle.es_grammar.specs.declared.types.rows.TypeRow.TheVariants.{TypeRow, IntersectionRow, OperandRow, ReferenceRow, EntityRow, ImportRow, ArgumentsRow, TypeParametersRow, OpenedFunctionRow, OpenedParametersRow, ElementRow, MemberRow, KeyRow, ResultRow, ParametersRow, ParameterRow, PatternRow, PatternElementRow, PatternPropertyRow, PatternKeyRow}
use Rattle.es_grammar.specs.types.Words.{is_name, is_word, is_name_or_this, is_numeric, begins_key}
use Rattle.es_grammar.specs.types.TypeNames.{begins_angle, begins_type_parameter}
use Rattle.es_grammar.specs.types.Members.{opens_parameters}
use Rattle.es_grammar.specs.types.Types.{begins_type}
use Rattle.es_grammar.specs.types.TypeTable.{type_rule}
use Rattle.es_grammar.proofs.types_lemmas.OnRows.{types_on_rows}

-- a token that can begin a parameter or its pattern
abbrev begins_pattern : TokenTest
begins_pattern x = has_kind is_name x || (is k.OpenBracket x || is k.OpenBrace x)

-- the tokens that may begin a row
abbrev pub first : Row → TokenTest
first (TypeRow c) x = begins_type x
first IntersectionRow x = begins_type x
first OperandRow x = begins_type x
first ReferenceRow x = has_kind is_name_or_this x
first EntityRow x = has_kind is_name_or_this x
first ImportRow x = is k.ImportWord x
first ArgumentsRow x = begins_angle x
first TypeParametersRow x = is k.Less x
first OpenedFunctionRow x = begins_type_parameter x
first OpenedParametersRow x = begins_type_parameter x
first ElementRow x = is k.Ellipsis x || (has_kind is_word x || begins_type x)
first MemberRow x = opens_parameters x || begins_key x
first KeyRow x = begins_key x
first (ResultRow c) x = begins_type x
first ParametersRow x = is k.ThisWord x || (is k.Ellipsis x || begins_pattern x)
first ParameterRow x = is k.ThisWord x || begins_pattern x
first PatternRow x = begins_pattern x
first PatternElementRow x = is k.Ellipsis x || begins_pattern x
first PatternPropertyRow x = is k.Ellipsis x || (has_kind is_word x || (is k.Str x || has_kind is_numeric x))
first PatternKeyRow x = has_kind is_word x || (is k.Str x || has_kind is_numeric x)

-- the tokens that may follow a row: the tests of the others tell whatever follows
abbrev pub follow : Row → TokenTest
follow ParametersRow x = is k.CloseParen x
follow _ x = true

-- the rows that always take a token
abbrev pub solid : Row → Bool
solid ParametersRow = false
solid _ = true

abbrev pub sets : Sets Row
sets = record { first = first; follow = follow; solid = solid }

-- each row but that of parameters takes a token, and so does each part that may be absent
rows_take : (r : Row) → solid r ≡ true → rule_takes solid (type_rule r) ≡ true
unfolding types_on_rows
rows_take (TypeRow true) h = refl
rows_take (TypeRow false) h = refl
rows_take IntersectionRow h = refl
rows_take OperandRow h = refl
rows_take ReferenceRow h = refl
rows_take EntityRow h = refl
rows_take ImportRow h = refl
rows_take ArgumentsRow h = refl
rows_take TypeParametersRow h = refl
rows_take OpenedFunctionRow h = refl
rows_take OpenedParametersRow h = refl
rows_take ElementRow h = refl
rows_take MemberRow h = refl
rows_take KeyRow h = refl
rows_take (ResultRow true) h = refl
rows_take (ResultRow false) h = refl
rows_take ParametersRow h = clash h
rows_take ParameterRow h = refl
rows_take PatternRow h = refl
rows_take PatternElementRow h = refl
rows_take PatternPropertyRow h = refl
rows_take PatternKeyRow h = refl

parts_take : (r : Row) → rule_parts_take solid (type_rule r) ≡ true
unfolding types_on_rows
parts_take (TypeRow true) = refl
parts_take (TypeRow false) = refl
parts_take IntersectionRow = refl
parts_take OperandRow = refl
parts_take ReferenceRow = refl
parts_take EntityRow = refl
parts_take ImportRow = refl
parts_take ArgumentsRow = refl
parts_take TypeParametersRow = refl
parts_take OpenedFunctionRow = refl
parts_take OpenedParametersRow = refl
parts_take ElementRow = refl
parts_take MemberRow = refl
parts_take KeyRow = refl
parts_take (ResultRow true) = refl
parts_take (ResultRow false) = refl
parts_take ParametersRow = refl
parts_take ParameterRow = refl
parts_take PatternRow = refl
parts_take PatternElementRow = refl
parts_take PatternPropertyRow = refl
parts_take PatternKeyRow = refl

-- what a row begins with
begins : (r : Row) → holds_everywhere (λ x. implies (rule_starts sets (type_rule r) none x) (first r x)) ≡ true
unfolding types_on_rows holds_everywhere
begins (TypeRow true) = refl
begins (TypeRow false) = refl
begins IntersectionRow = refl
begins OperandRow = refl
begins ReferenceRow = refl
begins EntityRow = refl
begins ImportRow = refl
begins ArgumentsRow = refl
begins TypeParametersRow = refl
begins OpenedFunctionRow = refl
begins OpenedParametersRow = refl
begins ElementRow = refl
begins MemberRow = refl
begins KeyRow = refl
begins (ResultRow true) = refl
begins (ResultRow false) = refl
begins ParametersRow = refl
begins ParameterRow = refl
begins PatternRow = refl
begins PatternElementRow = refl
begins PatternPropertyRow = refl
begins PatternKeyRow = refl

-- each test tells
tests_tell : (r : Row) → holds_everywhere (rule_tells sets (type_rule r) (follow r)) ≡ true
unfolding types_on_rows holds_everywhere
tests_tell (TypeRow true) = refl
tests_tell (TypeRow false) = refl
tests_tell IntersectionRow = refl
tests_tell OperandRow = refl
tests_tell ReferenceRow = refl
tests_tell EntityRow = refl
tests_tell ImportRow = refl
tests_tell ArgumentsRow = refl
tests_tell TypeParametersRow = refl
tests_tell OpenedFunctionRow = refl
tests_tell OpenedParametersRow = refl
tests_tell ElementRow = refl
tests_tell MemberRow = refl
tests_tell KeyRow = refl
tests_tell (ResultRow true) = refl
tests_tell (ResultRow false) = refl
tests_tell ParametersRow = refl
tests_tell ParameterRow = refl
tests_tell PatternRow = refl
tests_tell PatternElementRow = refl
tests_tell PatternPropertyRow = refl
tests_tell PatternKeyRow = refl

pub table_told : IsTold type_rule sets
table_told = record {
  steady = record { rows = rows_take; parts = parts_take };
  firsts = λ r x. holds_then (rule_starts sets (type_rule r) none x) (first r x)
      (holds_of_each (λ y. implies (rule_starts sets (type_rule r) none y) (first r y)) (begins r) x);
  choices = λ r. holds_of_each (rule_tells sets (type_rule r) (follow r)) (tests_tell r);
}

-- the grammar of types, where a conditional type may stand or not
pub types : (c : Bool) → IsGrammar type_rule sets (TypeRow c)
types c = record { told = table_told; ends = refl }
