-- The table of types (the handbook of TypeScript, "Types"): the rule of each row.
use Rattle.grammar_theory.specs.Productions.{Production}
use Rattle.es_grammar.specs.types.Words.{is_name_or_this}
use Rattle.es_grammar.specs.declared.types.rows.TypeRow.{TypeRow as Row}
use Rattle.es_grammar.specs.declared.types.rows.TypeRow.TheVariants.{TypeRow, IntersectionRow, OperandRow, ReferenceRow, EntityRow, ImportRow, ArgumentsRow, TypeParametersRow, OpenedFunctionRow, OpenedParametersRow, ElementRow, MemberRow, KeyRow, ResultRow, ParametersRow, ParameterRow, PatternRow, PatternElementRow, PatternPropertyRow, PatternKeyRow}
use Rattle.es_grammar.specs.types.TypeRows.{NodeKind}
use Rattle.es_grammar.specs.types.TypeNames.{entity, reference, import_type, arguments, type_parameters, opened_function, opened_parameters}
use Rattle.es_grammar.specs.types.Parameters.{parameters, parameter, pattern, pattern_element, pattern_property, pattern_key}
use Rattle.es_grammar.specs.types.Members.{member, key}
use Rattle.es_grammar.specs.types.Types.{any_type, intersection_type, operand_type, element, result}

unfoldable pub type_rule : Row → Production Row NodeKind
type_rule (TypeRow c) = any_type c
type_rule IntersectionRow = intersection_type
type_rule OperandRow = operand_type
type_rule ReferenceRow = reference is_name_or_this
type_rule EntityRow = entity is_name_or_this
type_rule ImportRow = import_type
type_rule ArgumentsRow = arguments
type_rule TypeParametersRow = type_parameters
type_rule OpenedFunctionRow = opened_function
type_rule OpenedParametersRow = opened_parameters
type_rule ElementRow = element
type_rule MemberRow = member
type_rule KeyRow = key
type_rule (ResultRow c) = result c
type_rule ParametersRow = parameters
type_rule ParameterRow = parameter
type_rule PatternRow = pattern
type_rule PatternElementRow = pattern_element
type_rule PatternPropertyRow = pattern_property
type_rule PatternKeyRow = pattern_key
