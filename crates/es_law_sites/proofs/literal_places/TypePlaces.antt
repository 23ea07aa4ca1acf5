-- String literals in the rows of types: computed, row by row.
use Rattle.std.specs.Prelude.{true, false}
use Rattle.std.proofs.Common.{◌≡◌, refl}
use Rattle.grammar_theory.specs.declared.error.Lang.{Lang}
use Rattle.grammar_theory.proofs.EachKind.{holds_everywhere}
use Rattle.es_grammar.specs.declared.types.rows.TypeRow.{TypeRow as Row}
use Rattle.es_grammar.specs.declared.types.rows.TypeRow.TheVariants.{TypeRow, IntersectionRow, OperandRow, ReferenceRow, EntityRow, ImportRow, ArgumentsRow, TypeParametersRow, OpenedFunctionRow, OpenedParametersRow, ElementRow, MemberRow, KeyRow, ResultRow, ParametersRow, ParameterRow, PatternRow, PatternElementRow, PatternPropertyRow, PatternKeyRow}
use Rattle.es_grammar.specs.types.Words.{is_name, is_word, is_name_or_this, is_numeric, is_sign, is_accessor_word, is_near, begins_key}
use Rattle.es_grammar.specs.types.TypeNames.{further_names, entity, opens_arguments, no_arguments, further_arguments, listed_parameters, opened_parameters, opened_function, begins_angle, begins_type_parameter, shows_type_parameter, opens_angle, reference, import_type, arguments, is_modifier, opens_modifier, type_parameter, type_parameters}
use Rattle.es_grammar.specs.types.Parameters.{parameters_in, mark_in, type_in, list_before, is_parameter, parameters, has_mark, no_mark, name_pattern, array_pattern, object_pattern, pattern, parameter, pattern_element, pattern_key, opens_value, pattern_property}
use Rattle.es_grammar.specs.types.Members.{result_in, is_separator, may_separate, separator, opens_parameters, call_signature, opens_construct, construct_signature, opens_readonly, shows_index, opens_index, index_signature, opens_accessor, accessor_signature, opens_method, method_signature, property_signature, is_property_key, readonly_property, member, computed_key, key}
use Rattle.es_grammar.specs.types.Types.{is_literal_word, begins_type, parenthesized_type, members_type, shows_mapped, opens_mapped, sign_in, begins_signed, mapped_type, tuple_type, type_query, opens_this_reference, is_type_word, is_keyword_type, template_types, number_type, primary_type, opens_brackets, brackets_in, array_types, is_type_operator, opens_operator, opens_infer, operand_type, operands_in, intersection_type, union_type, opens_condition, no_condition, conditional_type, opens_function, function_type, opens_constructor, constructor_type, any_type, is_label, label_in, element, is_asserted_name, opens_asserts, opens_predicate, result}
use Rattle.es_grammar.specs.types.TypeTable.{type_rule}
use Rattle.es_grammar.specs.declared.rows.Row.TheVariants.{TypesRow}
use Rattle.es_grammar.specs.Table.{rule}
use Rattle.es_grammar.specs.declared.rows.Row.{Row as Outer}
use Rattle.es_law_sites.proofs.shapes.FormedLemmas.{claims}
use Rattle.es_law_sites.proofs.literal_places.Places.{names}

pub types_name : (l : Lang) (any : Outer) (r : Row) → claims any names (rule l (TypesRow r)) ≡ true
unfolding holds_everywhere is_name is_word is_name_or_this is_numeric is_sign is_accessor_word is_near begins_key
    further_names entity
    opens_arguments no_arguments further_arguments listed_parameters opened_parameters opened_function begins_angle begins_type_parameter shows_type_parameter opens_angle reference import_type arguments is_modifier opens_modifier type_parameter
    type_parameters parameters_in mark_in type_in list_before is_parameter parameters has_mark no_mark name_pattern
    array_pattern object_pattern pattern parameter pattern_element pattern_key opens_value pattern_property result_in
    is_separator may_separate separator opens_parameters call_signature opens_construct construct_signature
    opens_readonly shows_index opens_index index_signature opens_accessor accessor_signature opens_method
    method_signature property_signature is_property_key readonly_property member computed_key key is_literal_word
    begins_type parenthesized_type members_type shows_mapped opens_mapped sign_in begins_signed mapped_type tuple_type
    type_query opens_this_reference is_type_word is_keyword_type template_types number_type primary_type
    opens_brackets brackets_in array_types is_type_operator opens_operator opens_infer operand_type operands_in
    intersection_type union_type opens_condition no_condition conditional_type opens_function function_type
    opens_constructor constructor_type any_type is_label label_in element is_asserted_name opens_asserts
    opens_predicate result type_rule rule
types_name l any (TypeRow true) = refl
types_name l any (TypeRow false) = refl
types_name l any IntersectionRow = refl
types_name l any OperandRow = refl
types_name l any ReferenceRow = refl
types_name l any EntityRow = refl
types_name l any ImportRow = refl
types_name l any ArgumentsRow = refl
types_name l any TypeParametersRow = refl
types_name l any OpenedFunctionRow = refl
types_name l any OpenedParametersRow = refl
types_name l any ElementRow = refl
types_name l any MemberRow = refl
types_name l any KeyRow = refl
types_name l any (ResultRow true) = refl
types_name l any (ResultRow false) = refl
types_name l any ParametersRow = refl
types_name l any ParameterRow = refl
types_name l any PatternRow = refl
types_name l any PatternElementRow = refl
types_name l any PatternPropertyRow = refl
types_name l any PatternKeyRow = refl
