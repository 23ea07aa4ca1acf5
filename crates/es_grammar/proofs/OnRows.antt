-- What a claim of the rows of programs unfolds.
use Rattle.std.specs.Prelude.{⊤}
use Rattle.es_grammar.specs.types.Words.{is_name, is_word, is_name_or_this, is_numeric, is_sign, is_accessor_word, is_near, begins_key}
use Rattle.es_grammar.specs.types.Modules.{may_end, ended, word_or_str_in, names_in, attributes, attributes_ended, from_ended, opens_type_import, opens_type_name, type_word_in, is_renamed, is_no_type_as_as, import_specifier, named, has_comma, clause, entity, opens_equals, shows_require, opens_require, equals_in, required, opens_bare, opens_source_import, opens_defer_import, source_import, defer_import, import_, export_specifier, opens_type_export, opens_all, opens_exported_equals, opens_exported_require, export_}
use Rattle.es_grammar.specs.types.Expressions.{is_prefix, is_update, is_product, is_sum, is_equality, is_relation, is_assignment, is_property_name, begins_expression, is_arrow, no_arrow, is_literal_word, follows_super, begins_member, begins_post, is_update_here, no_update_here, no_mix}
use Rattle.es_grammar.specs.types.Functions.{follows_pattern, is_parameter}
use Rattle.es_grammar.specs.types.Statements.{is_variable_word, is_each, is_label_here, label_ended, is_case, is_in_case, begins_no_other}
use Rattle.es_grammar.specs.types.Members.{opens_parameters}
use Rattle.es_grammar.specs.types.Types.{begins_type, is_literal_word as is_literal_type_word}
use Rattle.es_grammar.specs.types.TypeNames.{begins_angle}
use Rattle.es_grammar.specs.Embedding.{annotation_in, result_in, type_parameters_in, type_arguments_in, begins_call, stands_call, opens_call_arguments, stands_heritage, opens_heritage_arguments}
use Rattle.es_grammar.specs.Expressions.{opens_parameters_of_arrow, opens_arrow_here, opens_generic_async, opens_async_here, opens_any_arrow, arrow_in, opens_arrow_result, arrow_result_in, parameters_arrow_in, plain_arrow, opens_async_list, async_arrow, template, star_in, name_in, body_in, function, async_function, any_function, references_in, heritage_in, implements_in, class_form, class_, abstract_class, opens_abstract_class, any_class, spread, array_literal, object_literal, opens_no_arrow, name_expression, named_primary, primary, import_arguments, import_call, source_call, defer_call, is_module, import_meta, import_base, goes_on, ends_new, stands_new, opens_new_arguments, new_arguments_in, imported, opens_class_name, class_name_in, no_power, is_tight, comes_behind, is_tightest, right_operand, tight_in, base, arguments, opens_non_null, opens_post, plain_member_post, non_null_post, member_post, optional_post, is_at, opens_call, opens_typed_template, post, chain, callee, may_await, update, prefix, await_, no_assignment, type_assertion, unary, power, level, product, sum, opens_shift_in, shifted, shift, is_assertion_word, opens_assertion, opens_comparison, may_test, private_in, comparison_in, is_behind_as, asserted, asserted_or, no_form, relation, equality, bit_and, bit_xor, bit_or, and_, coalesce, binary, conditional, opens_operand, yield_, assignment, expression, element}
use Rattle.es_grammar.specs.Functions.{default_in, array_pattern, object_pattern, target, bracket_pattern, inner_pattern, pattern, pattern_element, pattern_property, rest_in, parameters, is_typed_modifier, is_modifier, opens_parameter_modifier, each_once, modifiers_in, mark_in, parameter_tail, is_parameter_mark, opens_marked, parameter, signature, plain_key, key, opens_any_method, typed_head_in, method_in, property}
use Rattle.es_grammar.specs.Classes.{opens_modifier, behind_all, is_member_key, static_in, value_in, head_in, marked_in, class_method_in, is_field_mark, field_in, modified_member, index_member, any_member, member}
use Rattle.es_grammar.specs.Statements.{condition_in, block, is_declarator_mark, opens_declarator, declarator, declarators, variables, using_in, using_, opens_initial, head_pattern, head_pattern_in, head, start_in, for_, for_each, for_await, return_, case_in, switch_, finally_in, try_, is_script, expression_statement, keyword_statement, other_statement}
use Rattle.es_grammar.specs.Declarations.{opens_interface, opens_alias, opens_enum, opens_namespace, opens_module, opens_global, is_declaration_word, opens_declare, type_members, interface, alias, enum_, items_in, is_namespace_word, namespace, module_namespace, global, typed_declaration, declared, declares_variables, declare, plain_declaration, declaration, statement}
use Rattle.es_grammar.specs.Items.{opens_any_default_class, opens_default_interface, default_expression, default_interface, other_default, export_default, opens_any_declaration, opens_export_assignment, export_names, export_item, item, shebang_in, module_, script}
use Rattle.es_grammar.specs.Table.{rule}

-- the rules and forms of programs, and their tests of one token
unfoldable pub rules_on_rows : ⊤
unfolding is_name is_word is_name_or_this is_numeric is_sign is_accessor_word is_near begins_key may_end ended
    word_or_str_in names_in attributes attributes_ended from_ended opens_type_import opens_type_name type_word_in
    is_renamed is_no_type_as_as import_specifier named has_comma clause entity opens_equals shows_require opens_require
    equals_in required opens_bare import_ export_specifier opens_type_export opens_all opens_source_import
    opens_defer_import source_import defer_import opens_exported_equals opens_exported_require export_ is_prefix
    is_update is_product is_sum is_equality is_relation is_assignment is_property_name begins_expression is_arrow
    no_arrow is_literal_word follows_super begins_member begins_post is_update_here no_update_here no_mix
    follows_pattern is_parameter is_variable_word is_each is_label_here label_ended is_case is_in_case begins_no_other
    opens_parameters begins_type is_literal_type_word annotation_in result_in type_parameters_in type_arguments_in
    begins_call stands_call opens_call_arguments stands_heritage opens_heritage_arguments opens_parameters_of_arrow
    opens_arrow_here opens_generic_async opens_async_here opens_any_arrow arrow_in opens_arrow_result arrow_result_in
    parameters_arrow_in plain_arrow opens_async_list async_arrow template star_in name_in body_in function
    async_function any_function references_in heritage_in implements_in class_form class_ abstract_class
    opens_abstract_class any_class spread array_literal object_literal opens_no_arrow name_expression named_primary
    primary import_call is_module import_meta goes_on ends_new stands_new opens_new_arguments new_arguments_in imported
    opens_class_name class_name_in no_power is_tight comes_behind is_tightest right_operand tight_in base arguments
    opens_non_null opens_post plain_member_post non_null_post member_post import_arguments source_call defer_call
    import_base optional_post is_at opens_call opens_typed_template post chain callee may_await update prefix await_
    no_assignment type_assertion unary power level product sum begins_angle opens_shift_in shifted shift is_assertion_word opens_assertion
    opens_comparison may_test private_in comparison_in is_behind_as asserted asserted_or no_form relation equality
    bit_and bit_xor bit_or and_ coalesce binary conditional opens_operand yield_ assignment expression element
    default_in array_pattern object_pattern target bracket_pattern inner_pattern pattern pattern_element
    pattern_property rest_in parameters is_typed_modifier is_modifier opens_parameter_modifier each_once modifiers_in
    mark_in parameter_tail is_parameter_mark opens_marked parameter signature plain_key key opens_any_method
    typed_head_in method_in property opens_modifier behind_all is_member_key static_in value_in head_in marked_in
    class_method_in is_field_mark field_in modified_member index_member any_member member condition_in block
    is_declarator_mark opens_declarator declarator declarators variables using_in using_ opens_initial head_pattern
    head_pattern_in head start_in for_ for_each for_await return_ case_in switch_ finally_in try_ is_script
    expression_statement keyword_statement other_statement opens_interface opens_alias opens_enum opens_namespace
    opens_module opens_global is_declaration_word opens_declare type_members interface alias enum_ items_in
    is_namespace_word namespace module_namespace global typed_declaration declared declares_variables declare
    plain_declaration declaration statement opens_any_default_class opens_default_interface default_expression
    default_interface other_default export_default opens_any_declaration opens_export_assignment export_names
    export_item item shebang_in module_ script rule
rules_on_rows = tt
