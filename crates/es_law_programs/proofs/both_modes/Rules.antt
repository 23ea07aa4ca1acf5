-- Each rule of expressions, patterns and statements that holds a condition carries to the same rule in a place for
-- both.
use Rattle.std.specs.Prelude.{List, Bool, true, false}
use Rattle.std.proofs.Common.{ℕ, refl}
use Rattle.es_token.specs.declared.token.TokenKind.{TokenKind}
use Rattle.grammar_theory.specs.declared.error.Lang.{Lang}
use Rattle.grammar_theory.specs.declared.error.Lang.TheVariants as lang
use Rattle.grammar_theory.specs.Key.{Key}
use Rattle.grammar_theory.specs.Productions.{Rhs, done, Production}
use Rattle.grammar_theory.specs.Plain.{Plain}
use Rattle.es_grammar.specs.types.Modules.{ended}
use Rattle.es_grammar.specs.types.Expressions.{is_product, is_sum, is_equality}
use Rattle.es_grammar.specs.types.Statements.{label_ended}
use Rattle.es_grammar.specs.declared.rows.Context.{Context}
use Rattle.es_grammar.specs.declared.rows.Row.{Row}
use Rattle.es_grammar.specs.declared.rows.Row.TheVariants.{AndRow, BitOrRow, BitXorRow, BitAndRow, EqualityRow, RelationRow, ProductRow, PowerRow}
use Rattle.es_grammar.specs.declared.rows.NodeKind.{NodeKind}
use Rattle.es_grammar.specs.types.Words.{only}
use Rattle.es_token.specs.declared.token.TokenKind.TheVariants as k
use Rattle.es_grammar.specs.Rows.{outside, in_head}
use Rattle.es_grammar.specs.Embedding.{annotation_in, type_parameters_in}
use Rattle.es_grammar.specs.Expressions.{opens_parameters_of_arrow, opens_arrow_here, opens_generic_async, opens_async_here, opens_any_arrow, arrow_in, opens_arrow_result, arrow_result_in, parameters_arrow_in, plain_arrow, opens_async_list, async_arrow, template, star_in, name_in, body_in, function, async_function, references_in, heritage_in, implements_in, class_form, class_, abstract_class, spread, array_literal, object_literal, opens_no_arrow, name_expression, named_primary, primary, import_arguments, import_call, source_call, defer_call, is_module, import_meta, import_base, new_arguments_in, imported, class_name_in, no_power, right_operand, tight_in, base, chain, callee, may_await, update, prefix, await_, type_assertion, asserted_before, unary, power, level, product, sum, shifted, shift, opens_comparison, may_test, private_in, comparison_in, asserted, asserted_or, no_form, relation, equality, bit_and, bit_xor, bit_or, and_, coalesce, binary, conditional, yield_, assignment, expression, element}
use Rattle.es_grammar.specs.Functions.{default_in, array_pattern, object_pattern, target, bracket_pattern, inner_pattern, pattern, pattern_element}
use Rattle.es_grammar.specs.Statements.{condition_in, block, declarators, using_in, using_, head_pattern, head_pattern_in, head, start_in, for_, for_each, for_await, return_, case_in, switch_, finally_in, try_, is_script, expression_statement, keyword_statement, other_statement}
use Rattle.es_grammar.specs.Declarations.{type_members, interface, alias, enum_, items_in, namespace, module_namespace, global, typed_declaration, declare, plain_declaration, declaration, statement}
use Rattle.es_law_programs.specs.both_modes.Both.{both, both_row}
use Rattle.es_law_programs.proofs.both_modes.Carries.{Carries, RuleCarries, tok_in, punct_in, opt_in, when_in, where_in, made, chosen_in, picked_in, as_in, wrapped_in, same_form, same_rule, row_in}

module _ (K : List Key) (Below : Row → Plain NodeKind → ℕ → ℕ → Type 0)
    (each : (r : Row) (q : Plain NodeKind) (from mid : ℕ) → Below r q from mid → Below (both_row r) q from mid) where
  -- the second form is the first, in a place for both
  abbrev Eases : Rhs Row → Rhs Row → Type 0
  Eases f g = Carries K Below f g

  abbrev RuleEases : Production Row NodeKind → Production Row NodeKind → Type 0
  RuleEases a b = RuleCarries K Below a b

  -- ---- expressions

  meta_eases : (c : Context) → RuleEases (import_meta c) (import_meta (both c))
  unfolding import_meta is_module
  meta_eases c = made (where_in (λ at h. refl) (same_form K Below each))

  import_base_eases : (c : Context) → RuleEases (import_base c) (import_base (both c))
  unfolding import_base source_call defer_call import_call import_arguments
  import_base_eases c =
      picked_in (same_rule K Below each)
      (picked_in (same_rule K Below each) (picked_in (meta_eases c) (same_rule K Below each)))

  imported_eases : (called : Bool) (c : Context) → RuleEases (imported called c) (imported called (both c))
  unfolding imported
  imported_eases true c = import_base_eases c
  imported_eases false c = meta_eases c

  base_eases : (l : Lang) (called : Bool) (c : Context) → RuleEases (base l called c) (base l called (both c))
  unfolding base primary opens_no_arrow array_literal object_literal function async_function class_ class_form
      class_name_in name_in star_in body_in ended heritage_in implements_in references_in named_primary name_expression
      abstract_class template new_arguments_in type_parameters_in
  base_eases lang.Es called c =
      chosen_in (same_rule K Below each)
      (chosen_in (imported_eases called c) (chosen_in (same_rule K Below each) (same_rule K Below each)))
  base_eases lang.Jsx called c =
      chosen_in (same_rule K Below each)
      (chosen_in (imported_eases called c) (chosen_in (same_rule K Below each) (same_rule K Below each)))
  base_eases lang.Typescript called c =
      chosen_in (same_rule K Below each)
      (chosen_in (imported_eases called c) (chosen_in (same_rule K Below each) (same_rule K Below each)))
  base_eases lang.Tsx called c =
      chosen_in (same_rule K Below each)
      (chosen_in (imported_eases called c) (chosen_in (same_rule K Below each) (same_rule K Below each)))
  base_eases lang.Wide called c =
      chosen_in (same_rule K Below each)
      (chosen_in (imported_eases called c) (chosen_in (same_rule K Below each) (same_rule K Below each)))

  pub chain_eases : (l : Lang) (c : Context) → RuleEases (chain l c) (chain l (both c))
  unfolding chain
  chain_eases lang.Es c = wrapped_in (base_eases lang.Es true c) (same_form K Below each)
  chain_eases lang.Jsx c = wrapped_in (base_eases lang.Jsx true c) (same_form K Below each)
  chain_eases lang.Typescript c = wrapped_in (base_eases lang.Typescript true c) (same_form K Below each)
  chain_eases lang.Tsx c = wrapped_in (base_eases lang.Tsx true c) (same_form K Below each)
  chain_eases lang.Wide c = wrapped_in (base_eases lang.Wide true c) (same_form K Below each)

  pub callee_eases : (l : Lang) (c : Context) → RuleEases (callee l c) (callee l (both c))
  unfolding callee
  callee_eases l c = wrapped_in (base_eases l false c) (same_form K Below each)

  update_eases : (l : Lang) (c : Context) → RuleEases (update l c) (update l (both c))
  unfolding update
  update_eases l c = chosen_in (same_rule K Below each) (wrapped_in (chain_eases l c) (same_form K Below each))

  await_eases : (c : Context) (f g : Rhs Row) → Eases f g → RuleEases (await_ c f) (await_ (both c) g)
  unfolding await_ may_await
  await_eases c f g h = made (where_in (λ at h. refl) (punct_in (row_in K Below each h)))

  asserted_eases : (l : Lang) (c : Context) (a b : Production Row NodeKind) → RuleEases a b
      → RuleEases (asserted_before l c done a) (asserted_before l (both c) done b)
  unfolding type_assertion
  asserted_eases lang.Es c a b h = h
  asserted_eases lang.Typescript c a b h = h
  asserted_eases lang.Jsx c a b h = h
  asserted_eases lang.Tsx c a b h = h
  asserted_eases lang.Wide c a b h = chosen_in (same_rule K Below each) h

  pub unary_eases : (l : Lang) (c : Context) → RuleEases (unary l c) (unary l (both c))
  unfolding unary prefix
  unary_eases l c =
      chosen_in (same_rule K Below each)
      (chosen_in (await_eases c done done (same_form K Below each)) (asserted_eases l c _ _ (update_eases l c)))

  no_power_eases : (l : Lang) → Eases (no_power l) (no_power l)
  unfolding no_power
  no_power_eases lang.Es = same_form K Below each
  no_power_eases lang.Jsx = same_form K Below each
  no_power_eases lang.Typescript = same_form K Below each
  no_power_eases lang.Tsx = same_form K Below each
  no_power_eases lang.Wide = same_form K Below each

  prefix_eases : (l : Lang) (c : Context) → RuleEases (prefix c (no_power l)) (prefix (both c) (no_power l))
  unfolding prefix
  prefix_eases l c = made (tok_in (row_in K Below each (no_power_eases l)))

  asserted_power_eases : (l : Lang) (c : Context) (a b : Production Row NodeKind) → RuleEases a b
      → RuleEases (asserted_before l c (no_power l) a) (asserted_before l (both c) (no_power l) b)
  unfolding type_assertion no_power
  asserted_power_eases lang.Es c a b h = h
  asserted_power_eases lang.Typescript c a b h = h
  asserted_power_eases lang.Jsx c a b h = h
  asserted_power_eases lang.Tsx c a b h = h
  asserted_power_eases lang.Wide c a b h = chosen_in (same_rule K Below each) h

  pub power_eases : (l : Lang) (c : Context) → RuleEases (power l c) (power l (both c))
  unfolding power
  power_eases l c =
      chosen_in (prefix_eases l c)
      (chosen_in (await_eases c (no_power l) (no_power l) (no_power_eases l))
      (asserted_power_eases l c _ _ (wrapped_in (update_eases l c) (same_form K Below each))))

  level_eases : (may : TokenKind → Bool) (r : Row) (a b : Production Row NodeKind) → RuleEases a b
      → RuleEases (level may r a) (level may (both_row r) b)
  unfolding level
  level_eases may r a b h = wrapped_in h (same_form K Below each)

  pub product_eases : (l : Lang) (c : Context) → RuleEases (product l c) (product l (both c))
  unfolding product
  product_eases l c = level_eases is_product (PowerRow c) (power l c) (power l (both c)) (power_eases l c)

  pub sum_eases : (l : Lang) (c : Context) → RuleEases (sum l c) (sum l (both c))
  unfolding sum
  sum_eases l c = level_eases is_sum (ProductRow c) (product l c) (product l (both c)) (product_eases l c)

  shifted_eases : (l : Lang) (c : Context) (a b : Production Row NodeKind) → RuleEases a b
      → RuleEases (shifted l c a) (shifted l (both c) b)
  unfolding shifted
  shifted_eases l c a b h = wrapped_in h (same_form K Below each)

  pub shift_eases : (l : Lang) (c : Context) → RuleEases (shift l c) (shift l (both c))
  unfolding shift
  shift_eases l c = shifted_eases l c (sum l c) (sum l (both c)) (sum_eases l c)

  pub right_eases : (l : Lang) (c : Context) → RuleEases (right_operand l c) (right_operand l (both c))
  unfolding right_operand
  right_eases l c =
      picked_in (power_eases l c) (picked_in (product_eases l c) (picked_in (sum_eases l c) (shift_eases l c)))

  pub relation_eases : (l : Lang) (c : Context) → RuleEases (relation l c) (relation l (both c))
  unfolding relation private_in may_test opens_comparison comparison_in asserted_or asserted tight_in
  relation_eases lang.Es c =
      wrapped_in (chosen_in (same_rule K Below each) (shift_eases lang.Es c)) (same_form K Below each)
  relation_eases lang.Jsx c =
      wrapped_in (chosen_in (same_rule K Below each) (shift_eases lang.Jsx c)) (same_form K Below each)
  relation_eases lang.Typescript c =
      shifted_eases lang.Typescript c _ _
      (wrapped_in (chosen_in (same_rule K Below each) (shift_eases lang.Typescript c)) (same_form K Below each))
  relation_eases lang.Tsx c =
      shifted_eases lang.Tsx c _ _
      (wrapped_in (chosen_in (same_rule K Below each) (shift_eases lang.Tsx c)) (same_form K Below each))
  relation_eases lang.Wide c =
      shifted_eases lang.Wide c _ _
      (wrapped_in (chosen_in (same_rule K Below each) (shift_eases lang.Wide c)) (same_form K Below each))

  pub equality_eases : (l : Lang) (c : Context) → RuleEases (equality l c) (equality l (both c))
  unfolding equality
  equality_eases l c =
      level_eases is_equality (RelationRow c) (relation l c) (relation l (both c)) (relation_eases l c)

  pub bit_and_eases : (l : Lang) (c : Context) → RuleEases (bit_and l c) (bit_and l (both c))
  unfolding bit_and
  bit_and_eases l c =
      level_eases (only k.Ampersand) (EqualityRow c) (equality l c) (equality l (both c)) (equality_eases l c)

  pub bit_xor_eases : (l : Lang) (c : Context) → RuleEases (bit_xor l c) (bit_xor l (both c))
  unfolding bit_xor
  bit_xor_eases l c = level_eases (only k.Caret) (BitAndRow c) (bit_and l c) (bit_and l (both c)) (bit_and_eases l c)

  pub bit_or_eases : (l : Lang) (c : Context) → RuleEases (bit_or l c) (bit_or l (both c))
  unfolding bit_or
  bit_or_eases l c = level_eases (only k.Bar) (BitXorRow c) (bit_xor l c) (bit_xor l (both c)) (bit_xor_eases l c)

  pub and_eases : (c : Context) (a b : Production Row NodeKind) → RuleEases a b → RuleEases (and_ c a) (and_ (both c) b)
  unfolding and_
  and_eases c a b h = level_eases (only k.AmpersandAmpersand) (BitOrRow c) a b h

  coalesce_eases : (l : Lang) (c : Context) → RuleEases (coalesce l c) (coalesce l (both c))
  unfolding coalesce
  coalesce_eases l c = wrapped_in (bit_or_eases l c) (same_form K Below each)

  binary_eases : (l : Lang) (c : Context) → RuleEases (binary l c) (binary l (both c))
  unfolding binary
  binary_eases l c =
      level_eases (only k.BarBar) (AndRow c) (and_ c (coalesce l c)) (and_ (both c) (coalesce l (both c)))
      (and_eases c (coalesce l c) (coalesce l (both c)) (coalesce_eases l c))

  conditional_eases : (l : Lang) (c : Context) → RuleEases (conditional l c) (conditional l (both c))
  unfolding conditional
  conditional_eases lang.Es c = wrapped_in (binary_eases lang.Es c) (same_form K Below each)
  conditional_eases lang.Jsx c = wrapped_in (binary_eases lang.Jsx c) (same_form K Below each)
  conditional_eases lang.Typescript c = wrapped_in (binary_eases lang.Typescript c) (same_form K Below each)
  conditional_eases lang.Tsx c = wrapped_in (binary_eases lang.Tsx c) (same_form K Below each)
  conditional_eases lang.Wide c = wrapped_in (binary_eases lang.Wide c) (same_form K Below each)

  pub assignment_eases : (l : Lang) (c : Context) → RuleEases (assignment l c) (assignment l (both c))
  unfolding assignment opens_any_arrow opens_arrow_here opens_async_here opens_parameters_of_arrow opens_generic_async
      async_arrow plain_arrow opens_async_list arrow_in arrow_result_in opens_arrow_result parameters_arrow_in
      type_parameters_in yield_
  assignment_eases lang.Es c =
      picked_in (same_rule K Below each) (chosen_in (same_rule K Below each)
      (picked_in (same_rule K Below each) (wrapped_in (conditional_eases lang.Es c) (same_form K Below each))))
  assignment_eases lang.Jsx c =
      picked_in (same_rule K Below each) (chosen_in (same_rule K Below each)
      (picked_in (same_rule K Below each) (wrapped_in (conditional_eases lang.Jsx c) (same_form K Below each))))
  assignment_eases lang.Typescript c =
      picked_in (same_rule K Below each) (chosen_in (same_rule K Below each)
      (picked_in (same_rule K Below each) (wrapped_in (conditional_eases lang.Typescript c) (same_form K Below each))))
  assignment_eases lang.Tsx c =
      picked_in (same_rule K Below each) (chosen_in (same_rule K Below each)
      (picked_in (same_rule K Below each) (wrapped_in (conditional_eases lang.Tsx c) (same_form K Below each))))
  assignment_eases lang.Wide c =
      picked_in (same_rule K Below each) (chosen_in (same_rule K Below each)
      (picked_in (same_rule K Below each) (wrapped_in (conditional_eases lang.Wide c) (same_form K Below each))))

  pub expression_eases : (l : Lang) (c : Context) → RuleEases (expression l c) (expression l (both c))
  unfolding expression
  expression_eases l c = wrapped_in (assignment_eases l c) (same_form K Below each)

  pub element_eases : (l : Lang) (c : Context) → RuleEases (element l c) (element l (both c))
  unfolding element spread
  element_eases l c = chosen_in (same_rule K Below each) (assignment_eases l (outside c))

  -- ---- patterns

  target_eases : (l : Lang) (c : Context) → RuleEases (target l c) (target l (both c))
  unfolding target asserted_or asserted no_form
  target_eases lang.Es c = as_in (chain_eases lang.Es c)
  target_eases lang.Jsx c = as_in (chain_eases lang.Jsx c)
  target_eases lang.Typescript c = as_in (wrapped_in (chain_eases lang.Typescript c) (same_form K Below each))
  target_eases lang.Tsx c = as_in (wrapped_in (chain_eases lang.Tsx c) (same_form K Below each))
  target_eases lang.Wide c = as_in (wrapped_in (chain_eases lang.Wide c) (same_form K Below each))

  bracket_eases : (t : Bool) (c : Context) → RuleEases (bracket_pattern t c) (bracket_pattern t (both c))
  unfolding bracket_pattern array_pattern object_pattern
  bracket_eases t c = same_rule K Below each

  pub inner_pattern_eases : (l : Lang) (t : Bool) (c : Context)
      → RuleEases (inner_pattern l t c) (inner_pattern l t (both c))
  unfolding inner_pattern
  inner_pattern_eases l false c = chosen_in (same_rule K Below each) (bracket_eases false c)
  inner_pattern_eases l true c = picked_in (bracket_eases true c) (target_eases l c)

  pub pattern_eases : (l : Lang) (t : Bool) (c : Context) → RuleEases (pattern l t c) (pattern l t (both c))
  unfolding pattern
  pattern_eases l false c = inner_pattern_eases l false c
  pattern_eases l true c = bracket_eases true c

  pub pattern_element_eases : (l : Lang) (t : Bool) (c : Context)
      → RuleEases (pattern_element l t c) (pattern_element l t (both c))
  unfolding pattern_element
  pattern_element_eases l t c =
      chosen_in (same_rule K Below each) (wrapped_in (inner_pattern_eases l t c) (same_form K Below each))

  -- ---- statements

  using_in_eases : (c : Context) (f g : Rhs Row) → Eases f g → Eases (using_in c f) (using_in (both c) g)
  unfolding using_in may_await
  using_in_eases c f g h = opt_in (where_in (λ at h. refl) (same_form K Below each)) (punct_in (when_in h))

  pub using_eases : (c : Context) → RuleEases (using_ c) (using_ (both c))
  unfolding using_ declarators
  using_eases c = made (using_in_eases c (declarators c) (declarators (both c)) (same_form K Below each))

  pub head_pattern_eases : (l : Lang) (c : Context) → RuleEases (head_pattern l c) (head_pattern l (both c))
  unfolding head_pattern is_script
  head_pattern_eases l c =
      picked_in (made (where_in (λ at h. refl) (same_form K Below each))) (pattern_eases l false c)

  pub head_eases : (l : Lang) (c : Context) → RuleEases (head l c) (head l (both c))
  unfolding head head_pattern_in annotation_in
  head_eases lang.Es c =
      chosen_in (same_rule K Below each)
      (picked_in (made (using_in_eases c _ _ (same_form K Below each)))
      (picked_in (pattern_eases lang.Es true c) (target_eases lang.Es (in_head c))))
  head_eases lang.Jsx c =
      chosen_in (same_rule K Below each)
      (picked_in (made (using_in_eases c _ _ (same_form K Below each)))
      (picked_in (pattern_eases lang.Jsx true c) (target_eases lang.Jsx (in_head c))))
  head_eases lang.Typescript c =
      chosen_in (same_rule K Below each)
      (picked_in (made (using_in_eases c _ _ (same_form K Below each)))
      (picked_in (pattern_eases lang.Typescript true c) (target_eases lang.Typescript (in_head c))))
  head_eases lang.Tsx c =
      chosen_in (same_rule K Below each)
      (picked_in (made (using_in_eases c _ _ (same_form K Below each)))
      (picked_in (pattern_eases lang.Tsx true c) (target_eases lang.Tsx (in_head c))))
  head_eases lang.Wide c =
      chosen_in (same_rule K Below each)
      (picked_in (made (using_in_eases c _ _ (same_form K Below each)))
      (picked_in (pattern_eases lang.Wide true c) (target_eases lang.Wide (in_head c))))

  for_await_eases : (c : Context) → RuleEases (for_await c) (for_await (both c))
  unfolding for_await may_await
  for_await_eases c = made (punct_in (where_in (λ at h. refl) (same_form K Below each)))

  for_eases : (c : Context) → RuleEases (for_ c) (for_ (both c))
  unfolding for_ start_in
  for_eases c = same_rule K Below each

  for_each_eases : (c : Context) → RuleEases (for_each c) (for_each (both c))
  unfolding for_each
  for_each_eases c = same_rule K Below each

  return_eases : (l : Lang) (c : Context) → RuleEases (return_ l c) (return_ l (both c))
  unfolding return_ ended
  return_eases l c = same_rule K Below each

  switch_eases : (l : Lang) (c : Context) → RuleEases (switch_ l c) (switch_ l (both c))
  unfolding switch_ case_in condition_in
  switch_eases lang.Es c = same_rule K Below each
  switch_eases lang.Jsx c = same_rule K Below each
  switch_eases lang.Typescript c = same_rule K Below each
  switch_eases lang.Tsx c = same_rule K Below each
  switch_eases lang.Wide c = same_rule K Below each

  try_eases : (l : Lang) (c : Context) → RuleEases (try_ l c) (try_ l (both c))
  unfolding try_ finally_in annotation_in
  try_eases lang.Es c = same_rule K Below each
  try_eases lang.Jsx c = same_rule K Below each
  try_eases lang.Typescript c = same_rule K Below each
  try_eases lang.Tsx c = same_rule K Below each
  try_eases lang.Wide c = same_rule K Below each

  with_eases : (c : Context) (l : Lang) (a b : Production Row NodeKind) → RuleEases a b
      → RuleEases (keyword_statement l c a) (keyword_statement l (both c) b)
  unfolding keyword_statement condition_in ended label_ended is_script
  with_eases c l a b h =
      chosen_in (same_rule K Below each)
      (chosen_in (picked_in (for_await_eases c) (picked_in (for_eases c) (for_each_eases c)))
      (chosen_in (same_rule K Below each)
      (chosen_in (same_rule K Below each)
      (chosen_in (same_rule K Below each)
      (chosen_in (same_rule K Below each)
      (chosen_in (return_eases l c)
      (chosen_in (same_rule K Below each)
      (chosen_in (switch_eases l c)
      (chosen_in (try_eases l c)
      (chosen_in (same_rule K Below each)
      (chosen_in (made (punct_in (where_in (λ at h. refl) (same_form K Below each)))) h)))))))))))

  declared_eases : (l : Lang) (c : Context)
      → RuleEases (declaration l c (other_statement c)) (declaration l (both c) (other_statement (both c)))
  unfolding declaration plain_declaration other_statement expression_statement ended function async_function class_
      class_form class_name_in name_in star_in body_in heritage_in implements_in references_in abstract_class
      type_parameters_in enum_ default_in type_members interface alias items_in namespace module_namespace global
      typed_declaration declare
  declared_eases lang.Es c = same_rule K Below each
  declared_eases lang.Jsx c = same_rule K Below each
  declared_eases lang.Typescript c = same_rule K Below each
  declared_eases lang.Tsx c = same_rule K Below each
  declared_eases lang.Wide c = same_rule K Below each

  pub statement_eases : (l : Lang) (c : Context) → RuleEases (statement l c) (statement l (both c))
  unfolding statement block
  statement_eases l c =
      chosen_in (same_rule K Below each)
      (chosen_in (same_rule K Below each) (with_eases c l _ _ (declared_eases l c)))
