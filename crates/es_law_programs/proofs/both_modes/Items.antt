-- Each other rule in a place for both: without a condition it is the same rule, with its rows in a place for both.
use Rattle.std.specs.Prelude.{List, Bool, true, false}
use Rattle.std.proofs.Common.{ℕ}
use Rattle.grammar_theory.specs.declared.error.Lang.{Lang}
use Rattle.grammar_theory.specs.declared.error.Lang.TheVariants as lang
use Rattle.grammar_theory.specs.Key.{Key}
use Rattle.grammar_theory.specs.Productions.{Production, refuse}
use Rattle.grammar_theory.specs.Plain.{Plain}
use Rattle.es_grammar.specs.types.Modules.{ended, word_or_str_in, names_in, attributes_ended, from_ended, type_word_in, equals_in, required, source_import, defer_import, import_, export_}
use Rattle.es_grammar.specs.declared.rows.Context.{Context}
use Rattle.es_grammar.specs.declared.rows.Row.{Row}
use Rattle.es_grammar.specs.declared.rows.NodeKind.{NodeKind}
use Rattle.es_grammar.specs.Rows.{outside}
use Rattle.es_grammar.specs.Embedding.{annotation_in, type_parameters_in, type_arguments_in, result_in}
use Rattle.es_grammar.specs.Expressions.{template, star_in, name_in, body_in, function, async_function, any_function, references_in, heritage_in, implements_in, class_form, class_, abstract_class, any_class, class_name_in, arguments, plain_member_post, non_null_post, member_post, optional_post, post}
use Rattle.es_grammar.specs.Functions.{default_in, pattern_property, rest_in, parameters, opens_parameter_modifier, each_once, modifiers_in, mark_in, parameter_tail, parameter, signature, plain_key, key, typed_head_in, method_in, property}
use Rattle.es_grammar.specs.Classes.{static_in, value_in, head_in, marked_in, class_method_in, field_in, modified_member, index_member, any_member, member}
use Rattle.es_grammar.specs.Statements.{block, declarator, declarators, variables}
use Rattle.es_grammar.specs.Declarations.{type_members, interface, alias, enum_, items_in, namespace, module_namespace, global, typed_declaration, declared, declare, plain_declaration, declaration}
use Rattle.es_grammar.specs.Items.{default_expression, default_interface, other_default, export_default, export_names, export_item, item}
use Rattle.es_law_programs.specs.both_modes.Both.{both, both_row}
use Rattle.es_law_programs.proofs.both_modes.Carries.{RuleCarries, chosen_in, picked_in, wrapped_in, same_form, same_rule}
use Rattle.es_law_programs.proofs.both_modes.Rules.{statement_eases, pattern_eases}

module _ (K : List Key) (Below : Row → Plain NodeKind → ℕ → ℕ → Type 0)
    (each : (r : Row) (q : Plain NodeKind) (from mid : ℕ) → Below r q from mid → Below (both_row r) q from mid) where
  abbrev RuleEases : Production Row NodeKind → Production Row NodeKind → Type 0
  RuleEases a b = RuleCarries K Below a b

  -- ---- items

  import_eases : (l : Lang) (c : Context) → RuleEases (item l c) (item l (both c))
  unfolding item import_ equals_in required attributes_ended from_ended type_word_in ended source_import defer_import
      export_item export_default default_expression other_default default_interface export_names export_ word_or_str_in
      names_in
  import_eases lang.Es c =
      picked_in (same_rule K Below each)
      (chosen_in (same_rule K Below each) (statement_eases K Below each lang.Es c))
  import_eases lang.Jsx c =
      picked_in (same_rule K Below each)
      (chosen_in (same_rule K Below each) (statement_eases K Below each lang.Jsx c))
  import_eases lang.Typescript c =
      picked_in (same_rule K Below each)
      (chosen_in (same_rule K Below each) (statement_eases K Below each lang.Typescript c))
  import_eases lang.Tsx c =
      picked_in (same_rule K Below each)
      (chosen_in (same_rule K Below each) (statement_eases K Below each lang.Tsx c))
  import_eases lang.Wide c =
      picked_in (same_rule K Below each)
      (chosen_in (same_rule K Below each) (statement_eases K Below each lang.Wide c))

  pub item_eases : (l : Lang) (c : Context) → RuleEases (item l c) (item l (both c))
  item_eases l c = import_eases l c

  -- ---- statements and declarations

  pub block_eases : (c : Context) → RuleEases (block c) (block (both c))
  unfolding block
  block_eases c = same_rule K Below each

  pub declaration_eases : (l : Lang) (c : Context) → RuleEases (declaration l c refuse) (declaration l (both c) refuse)
  unfolding declaration plain_declaration ended function async_function class_ class_form class_name_in name_in star_in
      body_in heritage_in implements_in references_in abstract_class type_parameters_in enum_ default_in type_members
      interface alias items_in namespace module_namespace global typed_declaration declare
  declaration_eases lang.Es c = same_rule K Below each
  declaration_eases lang.Jsx c = same_rule K Below each
  declaration_eases lang.Typescript c = same_rule K Below each
  declaration_eases lang.Tsx c = same_rule K Below each
  declaration_eases lang.Wide c = same_rule K Below each

  pub declared_eases : (l : Lang) (c : Context) → RuleEases (declared l c) (declared l (both c))
  unfolding declared ended function async_function class_ class_form class_name_in name_in star_in
      body_in heritage_in implements_in references_in abstract_class type_parameters_in enum_ default_in type_members
      interface alias items_in namespace module_namespace global typed_declaration
  declared_eases lang.Es c = same_rule K Below each
  declared_eases lang.Typescript c = same_rule K Below each
  declared_eases lang.Jsx c = same_rule K Below each
  declared_eases lang.Tsx c = same_rule K Below each
  declared_eases lang.Wide c = same_rule K Below each

  pub variables_eases : (c : Context) → RuleEases (variables c) (variables (both c))
  unfolding variables declarators
  variables_eases c = same_rule K Below each

  pub declarator_eases : (l : Lang) (c : Context) → RuleEases (declarator l c) (declarator l (both c))
  unfolding declarator annotation_in
  declarator_eases lang.Es c =
      wrapped_in (pattern_eases K Below each lang.Es false (outside c)) (same_form K Below each)
  declarator_eases lang.Jsx c =
      wrapped_in (pattern_eases K Below each lang.Jsx false (outside c)) (same_form K Below each)
  declarator_eases lang.Typescript c =
      picked_in (same_rule K Below each) (pattern_eases K Below each lang.Typescript false (outside c))
  declarator_eases lang.Tsx c =
      picked_in (same_rule K Below each) (pattern_eases K Below each lang.Tsx false (outside c))
  declarator_eases lang.Wide c =
      picked_in (same_rule K Below each) (pattern_eases K Below each lang.Wide false (outside c))

  -- ---- functions and classes

  pub function_eases : (l : Lang) (named : Bool) (c : Context)
      → RuleEases (any_function l named c) (any_function l named (both c))
  unfolding any_function function async_function star_in name_in body_in ended
  function_eases lang.Es true c = same_rule K Below each
  function_eases lang.Jsx true c = same_rule K Below each
  function_eases lang.Es false c = same_rule K Below each
  function_eases lang.Jsx false c = same_rule K Below each
  function_eases lang.Typescript true c = same_rule K Below each
  function_eases lang.Tsx true c = same_rule K Below each
  function_eases lang.Wide true c = same_rule K Below each
  function_eases lang.Typescript false c = same_rule K Below each
  function_eases lang.Tsx false c = same_rule K Below each
  function_eases lang.Wide false c = same_rule K Below each

  pub class_eases : (l : Lang) (named : Bool) (c : Context)
      → RuleEases (any_class l named c) (any_class l named (both c))
  unfolding any_class class_ abstract_class class_form class_name_in name_in type_parameters_in heritage_in
      implements_in references_in
  class_eases lang.Es true c = same_rule K Below each
  class_eases lang.Jsx true c = same_rule K Below each
  class_eases lang.Es false c = same_rule K Below each
  class_eases lang.Jsx false c = same_rule K Below each
  class_eases lang.Typescript true c = same_rule K Below each
  class_eases lang.Tsx true c = same_rule K Below each
  class_eases lang.Wide true c = same_rule K Below each
  class_eases lang.Typescript false c = same_rule K Below each
  class_eases lang.Tsx false c = same_rule K Below each
  class_eases lang.Wide false c = same_rule K Below each

  pub signature_eases : (l : Lang) (c : Context) → RuleEases (signature l c) (signature l (both c))
  unfolding signature type_parameters_in result_in
  signature_eases lang.Es c = same_rule K Below each
  signature_eases lang.Jsx c = same_rule K Below each
  signature_eases lang.Typescript c = same_rule K Below each
  signature_eases lang.Tsx c = same_rule K Below each
  signature_eases lang.Wide c = same_rule K Below each

  pub parameters_eases : (l : Lang) (c : Context) → RuleEases (parameters l c) (parameters l (both c))
  unfolding parameters rest_in annotation_in
  parameters_eases lang.Es c = same_rule K Below each
  parameters_eases lang.Jsx c = same_rule K Below each
  parameters_eases lang.Typescript c = same_rule K Below each
  parameters_eases lang.Tsx c = same_rule K Below each
  parameters_eases lang.Wide c = same_rule K Below each

  this_eases : (l : Lang) (c : Context) → RuleEases (parameter l c) (parameter l (both c))
  unfolding parameter parameter_tail mark_in annotation_in default_in modifiers_in each_once opens_parameter_modifier
  this_eases lang.Es c = wrapped_in (pattern_eases K Below each lang.Es false c) (same_form K Below each)
  this_eases lang.Jsx c = wrapped_in (pattern_eases K Below each lang.Jsx false c) (same_form K Below each)
  this_eases lang.Typescript c =
      chosen_in (same_rule K Below each)
      (picked_in (same_rule K Below each)
      (picked_in (same_rule K Below each) (pattern_eases K Below each lang.Typescript false c)))
  this_eases lang.Tsx c =
      chosen_in (same_rule K Below each)
      (picked_in (same_rule K Below each)
      (picked_in (same_rule K Below each) (pattern_eases K Below each lang.Tsx false c)))
  this_eases lang.Wide c =
      chosen_in (same_rule K Below each)
      (picked_in (same_rule K Below each)
      (picked_in (same_rule K Below each) (pattern_eases K Below each lang.Wide false c)))

  pub parameter_eases : (l : Lang) (c : Context) → RuleEases (parameter l c) (parameter l (both c))
  parameter_eases l c = this_eases l c

  pub property_pattern_eases : (t : Bool) (c : Context) → RuleEases (pattern_property t c) (pattern_property t (both c))
  unfolding pattern_property default_in
  property_pattern_eases t c = same_rule K Below each

  pub member_eases : (l : Lang) (c : Context) → RuleEases (member l c) (member l (both c))
  unfolding member any_member modified_member index_member marked_in head_in static_in modifiers_in each_once star_in
      class_method_in typed_head_in mark_in body_in ended field_in value_in annotation_in
  member_eases lang.Es c = same_rule K Below each
  member_eases lang.Jsx c = same_rule K Below each
  member_eases lang.Typescript c = same_rule K Below each
  member_eases lang.Tsx c = same_rule K Below each
  member_eases lang.Wide c = same_rule K Below each

  pub property_eases : (l : Lang) (c : Context) → RuleEases (property l c) (property l (both c))
  unfolding property method_in typed_head_in star_in
  property_eases lang.Es c = same_rule K Below each
  property_eases lang.Jsx c = same_rule K Below each
  property_eases lang.Typescript c = same_rule K Below each
  property_eases lang.Tsx c = same_rule K Below each
  property_eases lang.Wide c = same_rule K Below each

  pub key_eases : (p : Bool) (c : Context) → RuleEases (key p c) (key p (both c))
  unfolding key plain_key
  key_eases true c = same_rule K Below each
  key_eases false c = same_rule K Below each

  -- ---- parts of chains

  pub post_eases : (l : Lang) (c : Context) → RuleEases (post l c) (post l (both c))
  unfolding post optional_post member_post plain_member_post non_null_post type_arguments_in
  post_eases lang.Es c = same_rule K Below each
  post_eases lang.Jsx c = same_rule K Below each
  post_eases lang.Typescript c = same_rule K Below each
  post_eases lang.Tsx c = same_rule K Below each
  post_eases lang.Wide c = same_rule K Below each

  pub member_post_eases : (l : Lang) (c : Context) → RuleEases (member_post l c) (member_post l (both c))
  unfolding member_post plain_member_post non_null_post
  member_post_eases lang.Es c = same_rule K Below each
  member_post_eases lang.Jsx c = same_rule K Below each
  member_post_eases lang.Typescript c = same_rule K Below each
  member_post_eases lang.Tsx c = same_rule K Below each
  member_post_eases lang.Wide c = same_rule K Below each

  pub arguments_eases : (c : Context) → RuleEases (arguments c) (arguments (both c))
  unfolding arguments
  arguments_eases c = same_rule K Below each

  pub template_eases : (c : Context) → RuleEases (template c) (template (both c))
  unfolding template
  template_eases c = same_rule K Below each
