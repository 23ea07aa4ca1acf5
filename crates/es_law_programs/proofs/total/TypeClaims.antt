-- Each row of types gives what is claimed of it, in each language: computed, row by row.
use Rattle.std.specs.Prelude.{true, false}
use Rattle.std.proofs.Common.{◌≡◌, refl}
use Rattle.grammar_theory.specs.Tells.{implies}
use Rattle.grammar_theory.proofs.EachKind.{holds_everywhere}
use Rattle.es_grammar.specs.declared.types.rows.TypeRow.{TypeRow as Row}
use Rattle.es_grammar.specs.declared.types.rows.TypeRow.TheVariants.{TypeRow, IntersectionRow, OperandRow, ReferenceRow, EntityRow, ImportRow, ArgumentsRow, TypeParametersRow, OpenedFunctionRow, OpenedParametersRow, ElementRow, MemberRow, KeyRow, ResultRow, ParametersRow, ParameterRow, PatternRow, PatternElementRow, PatternPropertyRow, PatternKeyRow}
use Rattle.es_grammar.specs.declared.rows.Row.TheVariants.{TypesRow}
use Rattle.es_grammar.specs.Table.{rule}
use Rattle.es_grammar.proofs.Languages.{in_each}
use Rattle.es_grammar.proofs.types_lemmas.OnRows.{types_on_rows}
use Rattle.es_lowering.specs.Texts.{stop_of}
use Rattle.es_lowering.specs.Operators.{unary_ops, update_ops, arithmetic_ops, logical_ops, assign_ops, variable_kinds, accessor_kinds}
use Rattle.es_lowering.specs.TypeTexts.{keyword_kinds, type_operators, signs}
use Rattle.es_law_programs.proofs.total.Rows.{first_use, second_use, yields, shut}
use Rattle.es_law_programs.proofs.total.Table.{needs}
use Rattle.es_law_programs.proofs.total.Rules.{rule_ok}

pub gives_first : (r : Row)
    → in_each (λ l. implies (yields l (TypesRow r) (first_use l (TypesRow r)))
    (rule_ok (yields l) needs (shut (TypesRow r)) (rule l (TypesRow r)) (first_use l (TypesRow r)))) ≡ true
unfolding types_on_rows holds_everywhere rule stop_of unary_ops update_ops arithmetic_ops logical_ops assign_ops
    variable_kinds accessor_kinds keyword_kinds type_operators signs
gives_first (TypeRow true) = refl
gives_first (TypeRow false) = refl
gives_first IntersectionRow = refl
gives_first OperandRow = refl
gives_first ReferenceRow = refl
gives_first EntityRow = refl
gives_first ImportRow = refl
gives_first ArgumentsRow = refl
gives_first TypeParametersRow = refl
gives_first OpenedFunctionRow = refl
gives_first OpenedParametersRow = refl
gives_first ElementRow = refl
gives_first MemberRow = refl
gives_first KeyRow = refl
gives_first (ResultRow true) = refl
gives_first (ResultRow false) = refl
gives_first ParametersRow = refl
gives_first ParameterRow = refl
gives_first PatternRow = refl
gives_first PatternElementRow = refl
gives_first PatternPropertyRow = refl
gives_first PatternKeyRow = refl

pub gives_second : (r : Row)
    → in_each (λ l. implies (yields l (TypesRow r) (second_use l (TypesRow r)))
    (rule_ok (yields l) needs (shut (TypesRow r)) (rule l (TypesRow r)) (second_use l (TypesRow r)))) ≡ true
unfolding types_on_rows holds_everywhere rule stop_of unary_ops update_ops arithmetic_ops logical_ops assign_ops
    variable_kinds accessor_kinds keyword_kinds type_operators signs
gives_second ReferenceRow = refl
gives_second r = gives_first r
