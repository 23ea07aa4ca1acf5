-- What a claim of the rows of types unfolds.
use Rattle.std.specs.Prelude.{⊤}
use Rattle.es_grammar.specs.types.Words.{is_name, is_word, is_name_or_this, is_numeric, is_sign, is_accessor_word, is_near, begins_key}
use Rattle.es_grammar.specs.types.TypeNames.{further_names, entity, opens_arguments, no_arguments, further_arguments, listed_parameters, opened_parameters, opened_function, begins_angle, begins_type_parameter, shows_type_parameter, opens_angle, reference, import_type, arguments, is_modifier, opens_modifier, type_parameter, type_parameters}
use Rattle.es_grammar.specs.types.Parameters.{parameters_in, mark_in, type_in, list_before, is_parameter, parameters, has_mark, no_mark, name_pattern, array_pattern, object_pattern, pattern, parameter, pattern_element, pattern_key, opens_value, pattern_property}
use Rattle.es_grammar.specs.types.Members.{result_in, is_separator, may_separate, separator, opens_parameters, call_signature, opens_construct, construct_signature, opens_readonly, shows_index, opens_index, index_signature, opens_accessor, accessor_signature, opens_method, method_signature, property_signature, is_property_key, readonly_property, member, computed_key, key}
use Rattle.es_grammar.specs.types.Types.{is_literal_word, begins_type, parenthesized_type, members_type, shows_mapped, opens_mapped, sign_in, begins_signed, mapped_type, tuple_type, type_query, opens_this_reference, is_type_word, is_keyword_type, template_types, number_type, primary_type, opens_brackets, brackets_in, array_types, is_type_operator, opens_operator, opens_infer, operand_type, operands_in, intersection_type, union_type, opens_condition, no_condition, conditional_type, opens_function, function_type, opens_constructor, constructor_type, any_type, is_label, label_in, element, is_asserted_name, opens_asserts, opens_predicate, result}
use Rattle.es_grammar.specs.types.TypeTable.{type_rule}

-- the rules and forms of types, and their tests of one token
unfoldable pub types_on_rows : ⊤
unfolding is_name is_word is_name_or_this is_numeric is_sign is_accessor_word is_near begins_key further_names entity
    opens_arguments no_arguments further_arguments listed_parameters opened_parameters opened_function begins_angle
    begins_type_parameter shows_type_parameter opens_angle reference import_type arguments is_modifier opens_modifier
    type_parameter type_parameters parameters_in mark_in type_in list_before is_parameter parameters has_mark no_mark
    name_pattern array_pattern object_pattern pattern parameter pattern_element pattern_key opens_value pattern_property
    result_in is_separator may_separate separator opens_parameters call_signature opens_construct construct_signature
    opens_readonly shows_index opens_index index_signature opens_accessor accessor_signature opens_method
    method_signature property_signature is_property_key readonly_property member computed_key key is_literal_word
    begins_type parenthesized_type members_type shows_mapped opens_mapped sign_in begins_signed mapped_type tuple_type
    type_query opens_this_reference is_type_word is_keyword_type template_types number_type primary_type opens_brackets
    brackets_in array_types is_type_operator opens_operator opens_infer operand_type operands_in intersection_type
    union_type opens_condition no_condition conditional_type opens_function function_type opens_constructor
    constructor_type any_type is_label label_in element is_asserted_name opens_asserts opens_predicate result type_rule
types_on_rows = tt
