-- What is claimed of the rows of types, in the table of programs, is computed at each kind of token.
use Rattle.std.specs.Prelude.{true, false}
use Rattle.std.proofs.Common.{◌≡◌, refl}
use Rattle.grammar_theory.specs.declared.error.Lang.{Lang}
use Rattle.grammar_theory.specs.Checks.{rule_takes, rule_parts_take}
use Rattle.grammar_theory.specs.Tells.{none, implies, rule_starts, rule_tells}
use Rattle.grammar_theory.proofs.EachKind.{holds_everywhere}
use Rattle.grammar_theory.proofs.OutLemmas.{clash}
use Rattle.es_grammar.specs.declared.types.rows.TypeRow.{TypeRow as Row}
use Rattle.es_grammar.specs.declared.types.rows.TypeRow.TheVariants.{TypeRow, IntersectionRow, OperandRow, ReferenceRow, EntityRow, ImportRow, ArgumentsRow, TypeParametersRow, OpenedFunctionRow, OpenedParametersRow, ElementRow, MemberRow, KeyRow, ResultRow, ParametersRow, ParameterRow, PatternRow, PatternElementRow, PatternPropertyRow, PatternKeyRow}
use Rattle.es_grammar.specs.declared.rows.Row.TheVariants.{TypesRow}
use Rattle.es_grammar.specs.Table.{rule}
use Rattle.es_grammar.proofs.Sets.{first, follow, solid, sets}
use Rattle.es_grammar.proofs.types_lemmas.OnRows.{types_on_rows}

pub rows_take : (l : Lang) (r : Row) → solid (TypesRow r) ≡ true → rule_takes solid (rule l (TypesRow r)) ≡ true
unfolding types_on_rows rule holds_everywhere
rows_take l (TypeRow true) h = refl
rows_take l (TypeRow false) h = refl
rows_take l IntersectionRow h = refl
rows_take l OperandRow h = refl
rows_take l ReferenceRow h = refl
rows_take l EntityRow h = refl
rows_take l ImportRow h = refl
rows_take l ArgumentsRow h = refl
rows_take l TypeParametersRow h = refl
rows_take l OpenedFunctionRow h = refl
rows_take l OpenedParametersRow h = refl
rows_take l ElementRow h = refl
rows_take l MemberRow h = refl
rows_take l KeyRow h = refl
rows_take l (ResultRow true) h = refl
rows_take l (ResultRow false) h = refl
rows_take l ParametersRow h = clash h
rows_take l ParameterRow h = refl
rows_take l PatternRow h = refl
rows_take l PatternElementRow h = refl
rows_take l PatternPropertyRow h = refl
rows_take l PatternKeyRow h = refl

pub parts_take : (l : Lang) (r : Row) → rule_parts_take solid (rule l (TypesRow r)) ≡ true
unfolding types_on_rows rule holds_everywhere
parts_take l (TypeRow true) = refl
parts_take l (TypeRow false) = refl
parts_take l IntersectionRow = refl
parts_take l OperandRow = refl
parts_take l ReferenceRow = refl
parts_take l EntityRow = refl
parts_take l ImportRow = refl
parts_take l ArgumentsRow = refl
parts_take l TypeParametersRow = refl
parts_take l OpenedFunctionRow = refl
parts_take l OpenedParametersRow = refl
parts_take l ElementRow = refl
parts_take l MemberRow = refl
parts_take l KeyRow = refl
parts_take l (ResultRow true) = refl
parts_take l (ResultRow false) = refl
parts_take l ParametersRow = refl
parts_take l ParameterRow = refl
parts_take l PatternRow = refl
parts_take l PatternElementRow = refl
parts_take l PatternPropertyRow = refl
parts_take l PatternKeyRow = refl

pub begins : (l : Lang) (r : Row)
    → holds_everywhere (λ x. implies (rule_starts (sets l) (rule l (TypesRow r)) none x) (first l (TypesRow r) x))
    ≡ true
unfolding types_on_rows rule holds_everywhere
begins l (TypeRow true) = refl
begins l (TypeRow false) = refl
begins l IntersectionRow = refl
begins l OperandRow = refl
begins l ReferenceRow = refl
begins l EntityRow = refl
begins l ImportRow = refl
begins l ArgumentsRow = refl
begins l TypeParametersRow = refl
begins l OpenedFunctionRow = refl
begins l OpenedParametersRow = refl
begins l ElementRow = refl
begins l MemberRow = refl
begins l KeyRow = refl
begins l (ResultRow true) = refl
begins l (ResultRow false) = refl
begins l ParametersRow = refl
begins l ParameterRow = refl
begins l PatternRow = refl
begins l PatternElementRow = refl
begins l PatternPropertyRow = refl
begins l PatternKeyRow = refl

pub tests_tell : (l : Lang) (r : Row)
    → holds_everywhere (rule_tells (sets l) (rule l (TypesRow r)) (follow (TypesRow r))) ≡ true
unfolding types_on_rows rule holds_everywhere
tests_tell l (TypeRow true) = refl
tests_tell l (TypeRow false) = refl
tests_tell l IntersectionRow = refl
tests_tell l OperandRow = refl
tests_tell l ReferenceRow = refl
tests_tell l EntityRow = refl
tests_tell l ImportRow = refl
tests_tell l ArgumentsRow = refl
tests_tell l TypeParametersRow = refl
tests_tell l OpenedFunctionRow = refl
tests_tell l OpenedParametersRow = refl
tests_tell l ElementRow = refl
tests_tell l MemberRow = refl
tests_tell l KeyRow = refl
tests_tell l (ResultRow true) = refl
tests_tell l (ResultRow false) = refl
tests_tell l ParametersRow = refl
tests_tell l ParameterRow = refl
tests_tell l PatternRow = refl
tests_tell l PatternElementRow = refl
tests_tell l PatternPropertyRow = refl
tests_tell l PatternKeyRow = refl
