-- What a worked row of programs unfolds.
use Rattle.std.specs.Prelude.{⊤}
use Rattle.grammar_theory.specs.Fits.{most_nodes}
use Rattle.grammar_theory.specs.Reader.{read_turns, read_wraps, read_row}
use Rattle.es_grammar.specs.ProgramReader.{read_program}
use Rattle.es_grammar.specs.types.Words.{is_name, is_word, is_name_or_this, is_numeric, is_sign, is_accessor_word, is_near, begins_key}
use Rattle.es_grammar.specs.types.Modules.{may_end, ended, word_or_str_in, names_in, attributes, attributes_ended, from_ended, opens_type_import, opens_type_name, type_word_in, is_renamed, is_no_type_as_as, import_specifier, named, has_comma, clause, entity, opens_equals, shows_require, opens_require, equals_in, required, opens_bare, opens_source_import, opens_defer_import, source_import, defer_import, import_, export_specifier, opens_type_export, opens_all, opens_exported_equals, opens_exported_require, opens_namespace as programs_opens_namespace, export_}
use Rattle.es_grammar.specs.types.Expressions.{is_prefix, is_update, is_product, is_sum, is_equality, is_relation, is_assignment, is_property_name, joins, opens_greater, opens_right_shift, opens_right_assignment, begins_expression, is_arrow, no_arrow, opens_plain_arrow, opens_async_arrow, opens_arrow, opens_async_parenthesis, is_no_arrow_head, opens_async_function, is_literal_word, opens_property, has_argument, opens_source_call, opens_defer_call, follows_super, begins_member, begins_post, is_update_here, no_update_here, opens_shift, opens_relation, no_mix, opens_pattern, opens_assignment, is_operand}
use Rattle.es_grammar.specs.types.Functions.{follows_pattern, opens_inner_pattern, opens_value, is_parameter, opens_accessor, opens_async, is_plain_key, opens_star, opens_method}
use Rattle.es_grammar.specs.types.Classes.{opens_static, opens_field_accessor, behind_static, is_plain_member, opens_static_block}
use Rattle.es_grammar.specs.types.Statements.{is_variable_word, opens_using, opens_for, opens_for_await, is_each, opens_head_pattern, starts_using, starts_expression, is_label_here, label_ended, is_value_here, is_case, is_in_case, opens_label, begins_no_other}
use Rattle.es_grammar.specs.types.Items.{opens_import, opens_default, opens_default_function, opens_default_class, opens_declaration}
use Rattle.es_grammar.specs.types.TypeNames.{further_names, entity as types_entity, opens_arguments, no_arguments, further_arguments, listed_parameters, opened_parameters, opened_function, begins_angle, begins_type_parameter, shows_type_parameter, opens_angle, reference, import_type, arguments as types_arguments, is_modifier as types_is_modifier, opens_modifier as types_opens_modifier, type_parameter, type_parameters}
use Rattle.es_grammar.specs.types.Parameters.{parameters_in, mark_in as types_mark_in, type_in, list_before, is_parameter as types_is_parameter, parameters as types_parameters, has_mark, no_mark, name_pattern, array_pattern as types_array_pattern, object_pattern as types_object_pattern, pattern as types_pattern, parameter as types_parameter, pattern_element as types_pattern_element, pattern_key, opens_value as types_opens_value, pattern_property as types_pattern_property}
use Rattle.es_grammar.specs.types.Members.{result_in as types_result_in, is_separator, may_separate, separator, opens_parameters, call_signature, opens_construct, construct_signature, opens_readonly, shows_index, opens_index, index_signature, opens_accessor as types_opens_accessor, accessor_signature, opens_method as types_opens_method, method_signature, property_signature, is_property_key, readonly_property, member as types_member, computed_key, key as types_key}
use Rattle.es_grammar.specs.types.Types.{is_literal_word as types_is_literal_word, begins_type, parenthesized_type, members_type, shows_mapped, opens_mapped, sign_in, begins_signed, mapped_type, tuple_type, type_query, opens_this_reference, is_type_word, is_keyword_type, template_types, number_type, primary_type, opens_brackets, brackets_in, array_types, is_type_operator, opens_operator, opens_infer, operand_type, operands_in, intersection_type, union_type, opens_condition, no_condition, conditional_type, opens_function, follows_parameter, begins_parameters, function_type, opens_constructor, constructor_type, any_type, is_label, label_in, element as types_element, is_asserted_name, opens_asserts, opens_predicate, result}
use Rattle.es_grammar.specs.types.TypeTable.{type_rule}
use Rattle.es_grammar.specs.Embedding.{annotation_in, result_in, type_parameters_in, type_arguments_in, begins_call, stands_call, opens_call_arguments, stands_heritage, opens_heritage_arguments}
use Rattle.es_grammar.specs.Expressions.{opens_parameters_of_arrow, opens_arrow_here, opens_generic_async, opens_async_here, opens_any_arrow, arrow_in, opens_arrow_result, arrow_result_in, parameters_arrow_in, plain_arrow, opens_async_list, async_arrow, template, star_in, name_in, body_in, function, async_function, any_function, references_in, heritage_in, implements_in, class_form, class_, abstract_class, opens_abstract_class, any_class, spread, array_literal, object_literal, opens_no_arrow, name_expression, named_primary, primary, import_arguments, import_call, source_call, defer_call, is_module, import_meta, import_base, goes_on, ends_new, stands_new, opens_new_arguments, new_arguments_in, imported, opens_class_name, class_name_in, no_power, is_tight, comes_behind, is_tightest, right_operand, tight_in, base, arguments, opens_non_null, opens_post, plain_member_post, non_null_post, member_post, optional_post, is_at, opens_call, opens_typed_template, post, chain, callee, may_await, update, prefix, await_, no_assignment, type_assertion, unary, power, level, product, sum, opens_shift_in, shifted, shift, is_assertion_word, opens_assertion, opens_comparison, may_test, private_in, comparison_in, is_behind_as, asserted, asserted_or, no_form, relation, equality, bit_and, bit_xor, bit_or, and_, coalesce, binary, conditional, opens_operand, yield_, assignment, expression, element}
use Rattle.es_grammar.specs.Functions.{default_in, array_pattern, object_pattern, target, bracket_pattern, inner_pattern, pattern, pattern_element, pattern_property, rest_in, parameters, is_typed_modifier, is_modifier, opens_parameter_modifier, each_once, modifiers_in, mark_in, parameter_tail, is_parameter_mark, opens_marked, parameter, signature, plain_key, key, opens_any_method, typed_head_in, method_in, property}
use Rattle.es_grammar.specs.Classes.{opens_modifier, behind_all, is_member_key, static_in, value_in, head_in, marked_in, class_method_in, is_field_mark, field_in, modified_member, index_member, any_member, member}
use Rattle.es_grammar.specs.Statements.{condition_in, block, is_declarator_mark, opens_declarator, declarator, declarators, variables, using_in, using_, opens_initial, head_pattern, head_pattern_in, head, start_in, for_, for_each, for_await, return_, case_in, switch_, finally_in, try_, is_script, expression_statement, keyword_statement, other_statement}
use Rattle.es_grammar.specs.Declarations.{opens_interface, opens_alias, opens_enum, opens_namespace, opens_module, opens_global, is_declaration_word, opens_declare, type_members, interface, alias, enum_, items_in, is_namespace_word, namespace, module_namespace, global, typed_declaration, declared, declares_variables, declare, plain_declaration, declaration, statement}
use Rattle.es_grammar.specs.Items.{opens_any_default_class, opens_default_interface, default_expression, default_interface, other_default, export_default, opens_any_declaration, opens_export_assignment, export_names, export_item, item, shebang_in, module_, script}
use Rattle.es_grammar.specs.Table.{rule}

-- the reader, the rules and forms of programs and of types, and their predicates
unfoldable pub programs_on_keys : ⊤
unfolding read_program read_row read_turns read_wraps most_nodes is_name is_word is_name_or_this is_numeric is_sign
    is_accessor_word is_near begins_key may_end ended word_or_str_in names_in attributes attributes_ended from_ended
    opens_type_import opens_type_name type_word_in is_renamed is_no_type_as_as import_specifier named has_comma clause
    entity opens_equals shows_require opens_require equals_in required opens_bare import_ opens_source_import
    opens_defer_import source_import defer_import export_specifier opens_type_export opens_all opens_exported_equals
    opens_exported_require programs_opens_namespace export_ is_prefix is_update is_product is_sum is_equality
    is_relation is_assignment is_property_name joins opens_greater opens_right_shift opens_right_assignment
    begins_expression is_arrow no_arrow opens_plain_arrow opens_async_arrow opens_arrow opens_async_parenthesis
    is_no_arrow_head opens_async_function is_literal_word opens_property has_argument follows_super begins_member
    opens_source_call opens_defer_call begins_post is_update_here no_update_here opens_shift opens_relation no_mix
    opens_pattern opens_assignment is_operand follows_pattern opens_inner_pattern opens_value is_parameter
    opens_accessor opens_async is_plain_key opens_star opens_method opens_static opens_field_accessor behind_static
    is_plain_member opens_static_block is_variable_word opens_using opens_for opens_for_await is_each opens_head_pattern
    starts_using starts_expression is_label_here label_ended is_value_here is_case is_in_case opens_label
    begins_no_other opens_import opens_default opens_default_function opens_default_class opens_declaration
    further_names types_entity opens_arguments no_arguments further_arguments listed_parameters opened_parameters
    opened_function begins_angle begins_type_parameter shows_type_parameter opens_angle reference import_type
    types_arguments types_is_modifier types_opens_modifier type_parameter type_parameters parameters_in types_mark_in
    type_in list_before types_is_parameter types_parameters has_mark no_mark name_pattern types_array_pattern
    types_object_pattern types_pattern types_parameter types_pattern_element pattern_key types_opens_value
    types_pattern_property types_result_in is_separator may_separate separator opens_parameters call_signature
    opens_construct construct_signature opens_readonly shows_index opens_index index_signature types_opens_accessor
    accessor_signature types_opens_method method_signature property_signature is_property_key readonly_property
    types_member computed_key types_key types_is_literal_word begins_type parenthesized_type members_type shows_mapped
    opens_mapped sign_in begins_signed mapped_type tuple_type type_query opens_this_reference is_type_word
    is_keyword_type template_types number_type primary_type opens_brackets brackets_in array_types is_type_operator
    opens_operator opens_infer operand_type operands_in intersection_type union_type opens_condition no_condition
    conditional_type opens_function follows_parameter begins_parameters function_type opens_constructor constructor_type
    any_type is_label label_in types_element is_asserted_name opens_asserts opens_predicate result type_rule
    annotation_in result_in type_parameters_in type_arguments_in begins_call stands_call opens_call_arguments
    stands_heritage opens_heritage_arguments opens_parameters_of_arrow opens_arrow_here opens_generic_async
    opens_async_here opens_any_arrow arrow_in opens_arrow_result arrow_result_in parameters_arrow_in plain_arrow
    opens_async_list async_arrow template star_in name_in body_in function async_function any_function references_in
    heritage_in implements_in class_form class_ abstract_class opens_abstract_class any_class spread array_literal
    object_literal opens_no_arrow name_expression named_primary primary import_call is_module import_meta goes_on
    ends_new stands_new opens_new_arguments new_arguments_in imported opens_class_name class_name_in no_power is_tight
    comes_behind is_tightest right_operand tight_in base arguments opens_non_null opens_post import_arguments
    source_call defer_call import_base plain_member_post non_null_post member_post optional_post is_at opens_call
    opens_typed_template post chain callee may_await update prefix await_ no_assignment type_assertion unary power level product sum opens_shift_in
    shifted shift is_assertion_word opens_assertion opens_comparison may_test private_in comparison_in is_behind_as
    asserted asserted_or no_form relation equality bit_and bit_xor bit_or and_ coalesce binary conditional opens_operand
    yield_ assignment expression element default_in array_pattern object_pattern target bracket_pattern inner_pattern
    pattern pattern_element pattern_property rest_in parameters is_typed_modifier is_modifier opens_parameter_modifier
    each_once modifiers_in mark_in parameter_tail is_parameter_mark opens_marked parameter signature plain_key key
    opens_any_method typed_head_in method_in property opens_modifier behind_all is_member_key static_in value_in head_in
    marked_in class_method_in is_field_mark field_in modified_member index_member any_member member condition_in block
    is_declarator_mark opens_declarator declarator declarators variables using_in using_ opens_initial head_pattern
    head_pattern_in head start_in for_ for_each for_await return_ case_in switch_ finally_in try_ is_script
    expression_statement keyword_statement other_statement opens_interface opens_alias opens_enum opens_namespace
    opens_module opens_global is_declaration_word opens_declare type_members interface alias enum_ items_in
    is_namespace_word namespace module_namespace global typed_declaration declared declares_variables declare
    plain_declaration declaration statement opens_any_default_class opens_default_interface default_expression
    default_interface other_default export_default opens_any_declaration opens_export_assignment export_names
    export_item item shebang_in module_ script rule
programs_on_keys = tt
