-- What the nodes of expressions are, where their parts are such.
use Rattle.std.specs.Prelude.{true, false, List, Some, option_map}
use Rattle.std.proofs.Common.{ℕ, ◌+◌}
use Rattle.base.specs.declared.range.Range.{Range}
use Rattle.es_token.specs.declared.token.Token.{Token}
use Rattle.es_ast.specs.declared.leaf.ImportPhase.{ImportPhase}
use Rattle.es_ast.specs.declared.ast.Expr.TheVariants as vExpr
use Rattle.es_grammar.specs.declared.rows.NodeKind.TheVariants as l
use Rattle.es_lowering.specs.Value.{Value, absent, given, part, group, first_of, behind, optional, turns, expr_at, pat_at, stmt_at, params_at, prop_at, member_at, post_at, args_at, signature_at, type_at, arguments_at, type_params_at}
use Rattle.es_lowering.specs.Texts.{token_at, kind_at, ident_at, private_at, str_at, numeric_at, piece_there, property_at, own_name_at}
use Rattle.es_lowering.specs.Operators.{listed, unary_ops, update_ops, binary_between, assign_between}
use Rattle.es_lowering.specs.Expressions as exprs
use Rattle.es_lowering.specs.Functions as functions
use Rattle.es_lowering.specs.Classes as classes
use Rattle.es_lowering.specs.TypedParts as parts
use Rattle.es_lowering.specs.TypedFunctions as typed
use Rattle.es_lowering.specs.TypedExpressions as typed_exprs
use Rattle.es_law_programs.proofs.total.Uses.{as_expr, as_prop, as_member, as_post, as_args, as_type, as_arguments, as_type_params, IsThere}
use Rattle.es_law_programs.proofs.total.Needs.{rest, any, of, word, maybe, Meets}
use Rattle.es_law_programs.proofs.total.Words.{given_there, map_there, is_piece, listed_there, word_found, numeric_found, private_found, property_found, piece_found}
use Rattle.es_law_programs.proofs.total.Parts.{optional_in, turns_in, elements_in, body_found, stmt_body_found, yield_found, optional_found, typed_optional_found, before_found, turned_found, heritage_found, behind_operand}
use Rattle.es_law_programs.proofs.total.Table.{needs_expr, needs_post, needs_args}

module _ (x : List ℕ) (ts : List Token) where
  pub expr_Name : (from : ℕ) (r : Range) (p : Value) → Meets ts absent (needs_expr l.Name) (part p)
      → IsThere (exprs.name x ts p)
  unfolding exprs.name
  expr_Name from r p m = map_there (ident_at x ts p 0) _ (map_there (token_at ts p 0) _ m.0)

  pub expr_Word : (from : ℕ) (r : Range) (p : Value) → Meets ts absent (needs_expr l.Word) (part p)
      → IsThere (exprs.word ts r p)
  unfolding exprs.word
  expr_Word from r p m = word_found r (token_at ts p 0) m.0

  pub expr_Number : (from : ℕ) (r : Range) (p : Value) → Meets ts absent (needs_expr l.Number) (part p)
      → IsThere (exprs.number x ts p)
  unfolding exprs.number
  expr_Number from r p m = map_there (numeric_at x ts p 0) _ (numeric_found x (token_at ts p 0) m.0)

  pub expr_Str : (from : ℕ) (r : Range) (p : Value) → Meets ts absent (needs_expr l.Str) (part p)
      → IsThere (exprs.str x ts p)
  unfolding exprs.str
  expr_Str from r p m = map_there (str_at x ts p 0) _ (map_there (token_at ts p 0) _ m.0)

  pub expr_RegExp : (from : ℕ) (r : Range) (p : Value) → Meets ts absent (needs_expr l.RegExp) (part p)
      → IsThere (exprs.regexp x ts p)
  unfolding exprs.regexp
  expr_RegExp from r p m = map_there (token_at ts p 0) _ m.0

  pub expr_Template : (from : ℕ) (r : Range) (p : Value) → Meets ts absent (needs_expr l.Template) (part p)
      → IsThere (exprs.template x ts r p)
  unfolding exprs.template
  expr_Template from r p m = map_there (piece_there x ts p 0) _ (piece_found x (token_at ts p 0) m.0)

  pub expr_TemplateParts : (from : ℕ) (r : Range) (p : Value) → Meets ts absent (needs_expr l.TemplateParts) (part p)
      → IsThere (exprs.template_parts x ts r p)
  unfolding exprs.template_parts
  expr_TemplateParts from r p m =
      given_there (piece_there x ts p 0) _ (piece_found x (token_at ts p 0) m.0)
      (λ a1. given_there (expr_at p 1) _ m.1.0
      (λ a2. given_there (turns (λ turn. piece_there x ts turn 0) (group p 2)) _
      (turns_in (λ v. Meets ts absent (word is_piece (of as_expr rest)) (part v))
      (λ turn. piece_there x ts turn 0) (λ t3 h3. piece_found x (token_at ts t3 0) h3.0) (part p 2)
      m.1.1.0) (λ a4. given_there (turns (λ turn. expr_at turn 1) (group p 2)) _
      (turns_in (λ v. Meets ts absent (word is_piece (of as_expr rest)) (part v))
      (λ turn. expr_at turn 1) (λ t5 h5. h5.1.0) (part p 2) m.1.1.0)
      (λ a6. given_there (piece_there x ts p 3) _
      (piece_found x (token_at ts p 3) m.1.1.1.0) (λ a7. tt)))))

  pub expr_Parenthesized : (from : ℕ) (r : Range) (p : Value) → Meets ts absent (needs_expr l.Parenthesized) (part p)
      → IsThere (exprs.parenthesized r p)
  unfolding exprs.parenthesized
  expr_Parenthesized from r p m = map_there (expr_at p 0) _ m.0

  pub expr_ArrayLiteral : (from : ℕ) (r : Range) (p : Value) → Meets ts absent (needs_expr l.ArrayLiteral) (part p)
      → IsThere (exprs.array_literal ts from r p)
  unfolding exprs.array_literal
  expr_ArrayLiteral from r p m =
      map_there (exprs.elements vExpr.Hole expr_at ts (from + 1) (group p 0)) _
      (elements_in x ts as_expr vExpr.Hole expr_at (λ v h vs. h) (from + 1) (part p 0) m.0)

  pub expr_ObjectLiteral : (from : ℕ) (r : Range) (p : Value) → Meets ts absent (needs_expr l.ObjectLiteral) (part p)
      → IsThere (exprs.object_literal r p)
  unfolding exprs.object_literal
  expr_ObjectLiteral from r p m =
      map_there (turns (λ turn. prop_at turn 0) (group p 0)) _
      (turns_in (λ v. Meets ts absent (of as_prop rest) (part v)) (λ turn. prop_at turn 0) (λ t1 h1. h1.0)
      (part p 0) m.0)

  pub expr_Spread : (from : ℕ) (r : Range) (p : Value) → Meets ts absent (needs_expr l.Spread) (part p)
      → IsThere (exprs.spread r p)
  unfolding exprs.spread
  expr_Spread from r p m = map_there (expr_at p 0) _ m.0

  pub expr_Function : (from : ℕ) (r : Range) (p : Value) → Meets ts absent (needs_expr l.Function) (part p)
      → IsThere (option_map vExpr.Fn (functions.function x ts false r p))
  unfolding functions.function
  expr_Function from r p m =
      map_there (functions.function x ts false r p) _
      (given_there (own_name_at x ts p 1) _ (m.1.0 x)
      (λ a1. given_there (params_at p 2) _ m.1.1.0 (λ a2. given_there (stmt_at p 3) _ m.1.1.1.0 (λ a3. tt))))

  pub expr_AsyncFunction : (from : ℕ) (r : Range) (p : Value) → Meets ts absent (needs_expr l.AsyncFunction) (part p)
      → IsThere (option_map vExpr.Fn (functions.function x ts true r p))
  unfolding functions.function
  expr_AsyncFunction from r p m =
      map_there (functions.function x ts true r p) _
      (given_there (own_name_at x ts p 1) _ (m.1.0 x)
      (λ a1. given_there (params_at p 2) _ m.1.1.0 (λ a2. given_there (stmt_at p 3) _ m.1.1.1.0 (λ a3. tt))))

  pub expr_Class : (from : ℕ) (r : Range) (p : Value) → Meets ts absent (needs_expr l.Class) (part p)
      → IsThere (option_map vExpr.Class (classes.class_ x ts r p))
  unfolding classes.class_
  expr_Class from r p m =
      map_there (classes.class_ x ts r p) _
      (given_there (own_name_at x ts p 0) _ (m.0 x)
      (λ a1. given_there (optional expr_at (group p 1)) _
      (optional_in (λ v. Meets ts absent (of as_expr rest) (part v)) expr_at (λ g2 h2. h2.0) (part p 1)
      m.1.0) (λ a3. given_there (turns (λ turn. member_at turn 0) (group p 2)) _
      (turns_in (λ v. Meets ts absent (of as_member rest) (part v)) (λ turn. member_at turn 0)
      (λ t4 h4. h4.0) (part p 2) m.1.1.0) (λ a5. tt))))

  pub expr_Super : (from : ℕ) (r : Range) (p : Value) → Meets ts absent (needs_expr l.Super) (part p)
      → IsThere (Some (vExpr.Super r))
  expr_Super from r p m = tt

  pub expr_ImportCall : (phase : ImportPhase) (from : ℕ) (r : Range) (p : Value)
      → Meets ts absent (needs_expr l.ImportCall) (part p) → IsThere (exprs.import_call phase r p)
  unfolding exprs.import_call
  expr_ImportCall phase from r p m =
      given_there (expr_at p 0) _ m.0
      (λ a1. given_there (optional expr_at (group p 1)) _
      (optional_in (λ v. Meets ts absent (of as_expr rest) (part v)) expr_at (λ g2 h2. h2.0) (part p 1) m.1.0)
      (λ a3. tt))

  pub expr_ImportMeta : (from : ℕ) (r : Range) (p : Value) → Meets ts absent (needs_expr l.ImportMeta) (part p)
      → IsThere (Some (vExpr.ImportMeta r))
  expr_ImportMeta from r p m = tt

  pub expr_NewTarget : (from : ℕ) (r : Range) (p : Value) → Meets ts absent (needs_expr l.NewTarget) (part p)
      → IsThere (Some (vExpr.NewTarget r))
  expr_NewTarget from r p m = tt

  pub expr_New : (from : ℕ) (r : Range) (p : Value) → Meets ts absent (needs_expr l.New) (part p)
      → IsThere (exprs.new_ r p)
  unfolding exprs.new_
  expr_New from r p m =
      given_there (expr_at p 0) _ m.0
      (λ a1. given_there (optional args_at (group p 1)) _
      (optional_in (λ v. Meets ts absent (of as_args rest) (part v)) args_at (λ g2 h2. h2.0) (part p 1) m.1.0)
      (λ a3. tt))

  pub expr_Chain : (from : ℕ) (r : Range) (p : Value) → Meets ts absent (needs_expr l.Chain) (part p)
      → IsThere (exprs.chain r p)
  unfolding exprs.chain
  expr_Chain from r p m =
      given_there (expr_at p 0) _ m.0
      (λ a1. given_there (post_at p 1) _ m.1.0
      (λ a2. given_there (turns (λ turn. post_at turn 0) (group p 2)) _
      (turns_in (λ v. Meets ts absent (of as_post rest) (part v)) (λ turn. post_at turn 0) (λ t3 h3. h3.0)
      (part p 2) m.1.1.0) (λ a4. tt)))

  pub expr_UpdatePrefix : (from : ℕ) (r : Range) (p : Value) → Meets ts absent (needs_expr l.UpdatePrefix) (part p)
      → IsThere (exprs.update_prefix ts r p)
  unfolding exprs.update_prefix update_ops
  expr_UpdatePrefix from r p m =
      given_there (given (kind_at ts p 0) (listed update_ops)) _ (listed_there update_ops (token_at ts p 0) m.0)
      (λ a1. given_there (expr_at p 1) _ m.1.0 (λ a2. tt))

  pub expr_UpdatePostfix : (from : ℕ) (r : Range) (p : Value) → Meets ts absent (needs_expr l.UpdatePostfix) (part p)
      → IsThere (exprs.update_postfix ts r p)
  unfolding exprs.update_postfix update_ops
  expr_UpdatePostfix from r p m =
      given_there (expr_at p 0) _ m.0
      (λ a1. given_there (given (kind_at ts p 1) (listed update_ops)) _
      (listed_there update_ops (token_at ts p 1) m.1.0) (λ a2. tt))

  pub expr_UnaryExpression : (from : ℕ) (r : Range) (p : Value)
      → Meets ts absent (needs_expr l.UnaryExpression) (part p) → IsThere (exprs.prefix ts r p)
  unfolding exprs.prefix unary_ops
  expr_UnaryExpression from r p m =
      given_there (given (kind_at ts p 0) (listed unary_ops)) _ (listed_there unary_ops (token_at ts p 0) m.0)
      (λ a1. given_there (expr_at p 1) _ m.1.0 (λ a2. tt))

  pub expr_AwaitExpression : (from : ℕ) (r : Range) (p : Value)
      → Meets ts absent (needs_expr l.AwaitExpression) (part p) → IsThere (exprs.await_ r p)
  unfolding exprs.await_
  expr_AwaitExpression from r p m = map_there (expr_at p 0) _ m.0

  pub expr_Binary : (from : ℕ) (r : Range) (p : Value) → Meets ts absent (needs_expr l.Binary) (part p)
      → IsThere (exprs.binary ts r p)
  unfolding exprs.binary
  expr_Binary from r p m =
      given_there (expr_at p 0) _ m.0
      (λ a1. given_there (binary_between ts (behind (part p 0)) (first_of (part p 2))) _ m.1.0
      (λ a2. given_there (expr_at p 2) _ m.1.1.0 (λ a3. tt)))

  pub expr_PrivateIn : (from : ℕ) (r : Range) (p : Value) → Meets ts absent (needs_expr l.PrivateIn) (part p)
      → IsThere (exprs.private_in x ts r p)
  unfolding exprs.private_in
  expr_PrivateIn from r p m =
      given_there (private_at x ts p 0) _ (private_found x (token_at ts p 0) m.0)
      (λ a1. given_there (expr_at p 1) _ m.1.0 (λ a2. tt))

  pub expr_Conditional : (from : ℕ) (r : Range) (p : Value) → Meets ts absent (needs_expr l.Conditional) (part p)
      → IsThere (exprs.conditional r p)
  unfolding exprs.conditional
  expr_Conditional from r p m =
      given_there (expr_at p 0) _ m.0
      (λ a1. given_there (expr_at p 1) _ m.1.0 (λ a2. given_there (expr_at p 2) _ m.1.1.0 (λ a3. tt)))

  pub expr_Assignment : (from : ℕ) (r : Range) (p : Value) → Meets ts absent (needs_expr l.Assignment) (part p)
      → IsThere (exprs.assignment ts r p)
  unfolding exprs.assignment
  expr_Assignment from r p m =
      given_there (expr_at p 0) _ m.0
      (λ a1. given_there (assign_between ts (behind (part p 0)) (first_of (part p 2))) _ m.1.0
      (λ a2. given_there (expr_at p 2) _ m.1.1.0 (λ a3. tt)))

  pub expr_PatternAssignment : (from : ℕ) (r : Range) (p : Value)
      → Meets ts absent (needs_expr l.PatternAssignment) (part p) → IsThere (exprs.pattern_assignment r p)
  unfolding exprs.pattern_assignment
  expr_PatternAssignment from r p m =
      given_there (pat_at p 0) _ m.0 (λ a1. given_there (expr_at p 1) _ m.1.0 (λ a2. tt))

  pub expr_Yield : (from : ℕ) (r : Range) (p : Value) → Meets ts absent (needs_expr l.Yield) (part p)
      → IsThere (exprs.yield_ r p)
  unfolding exprs.yield_
  expr_Yield from r p m = yield_found x ts r (part p 0) m.0

  pub expr_NameArrow : (from : ℕ) (r : Range) (p : Value) → Meets ts absent (needs_expr l.NameArrow) (part p)
      → IsThere (functions.name_arrow x ts false r p)
  unfolding functions.name_arrow
  expr_NameArrow from r p m =
      given_there (token_at ts p 0) _ m.0
      (λ a1. given_there (functions.body_of ts (part (group p 1) 0)) _ (body_found x ts (group p 1) m.1.0)
      (λ a2. tt))

  pub expr_ParenthesizedArrow : (from : ℕ) (r : Range) (p : Value)
      → Meets ts absent (needs_expr l.ParenthesizedArrow) (part p)
      → IsThere (functions.parenthesized_arrow ts false r p)
  unfolding functions.parenthesized_arrow
  expr_ParenthesizedArrow from r p m =
      given_there (params_at p 0) _ m.0
      (λ a1. given_there (functions.body_of ts (part (group p 1) 0)) _ (body_found x ts (group p 1) m.1.0)
      (λ a2. tt))

  pub expr_AsyncNameArrow : (from : ℕ) (r : Range) (p : Value) → Meets ts absent (needs_expr l.AsyncNameArrow) (part p)
      → IsThere (functions.name_arrow x ts true r p)
  unfolding functions.name_arrow
  expr_AsyncNameArrow from r p m =
      given_there (token_at ts p 0) _ m.0
      (λ a1. given_there (functions.body_of ts (part (group p 1) 0)) _ (body_found x ts (group p 1) m.1.0)
      (λ a2. tt))

  pub expr_AsyncParenthesizedArrow : (from : ℕ) (r : Range) (p : Value)
      → Meets ts absent (needs_expr l.AsyncParenthesizedArrow) (part p)
      → IsThere (functions.parenthesized_arrow ts true r p)
  unfolding functions.parenthesized_arrow
  expr_AsyncParenthesizedArrow from r p m =
      given_there (params_at p 0) _ m.0
      (λ a1. given_there (functions.body_of ts (part (group p 1) 0)) _ (body_found x ts (group p 1) m.1.0)
      (λ a2. tt))

  pub expr_Sequence : (from : ℕ) (r : Range) (p : Value) → Meets ts absent (needs_expr l.Sequence) (part p)
      → IsThere (exprs.sequence r p)
  unfolding exprs.sequence
  expr_Sequence from r p m =
      given_there (expr_at p 0) _ m.0
      (λ a1. given_there (expr_at p 1) _ m.1.0
      (λ a2. given_there (turns (λ turn. expr_at turn 0) (group p 2)) _
      (turns_in (λ v. Meets ts absent (of as_expr rest) (part v)) (λ turn. expr_at turn 0) (λ t3 h3. h3.0)
      (part p 2) m.1.1.0) (λ a4. tt)))

  pub expr_TypedFunction : (from : ℕ) (r : Range) (p : Value) → Meets ts absent (needs_expr l.TypedFunction) (part p)
      → IsThere (option_map vExpr.Fn (typed.typed_function x ts false r p))
  unfolding typed.typed_function
  expr_TypedFunction from r p m =
      map_there (typed.typed_function x ts false r p) _
      (given_there (own_name_at x ts p 1) _ (m.1.0 x)
      (λ a1. given_there (signature_at p 2) _ m.1.1.0
      (λ a2. given_there (parts.body_in (group p 3)) _ (stmt_body_found x ts (group p 3) m.1.1.1.0)
      (λ a3. tt))))

  pub expr_TypedAsyncFunction : (from : ℕ) (r : Range) (p : Value)
      → Meets ts absent (needs_expr l.TypedAsyncFunction) (part p)
      → IsThere (option_map vExpr.Fn (typed.typed_function x ts true r p))
  unfolding typed.typed_function
  expr_TypedAsyncFunction from r p m =
      map_there (typed.typed_function x ts true r p) _
      (given_there (own_name_at x ts p 1) _ (m.1.0 x)
      (λ a1. given_there (signature_at p 2) _ m.1.1.0
      (λ a2. given_there (parts.body_in (group p 3)) _ (stmt_body_found x ts (group p 3) m.1.1.1.0)
      (λ a3. tt))))

  pub expr_TypedClass : (from : ℕ) (r : Range) (p : Value) → Meets ts absent (needs_expr l.TypedClass) (part p)
      → IsThere (option_map vExpr.Class (typed.typed_class x ts false r p))
  unfolding typed.typed_class
  expr_TypedClass from r p m =
      map_there (typed.typed_class x ts false r p) _
      (given_there (own_name_at x ts p 0) _ (m.0 x)
      (λ a1. given_there (parts.params_part_at p 1) _
      (map_there (optional type_params_at (group p 1)) _
      (optional_in (λ v. Meets ts absent (of as_type_params rest) (part v)) type_params_at
      (λ g2 h2. h2.0) (part p 1) m.1.0))
      (λ a3. given_there (optional expr_at (group p 2)) _
      (optional_in (λ v. Meets ts absent (of as_expr (maybe (of as_arguments rest) rest))
      (part v)) expr_at (λ g4 h4. h4.0) (part p 2) m.1.1.0)
      (λ a5. given_there (parts.args_part_at (group p 2) 1) _
      (map_there (optional arguments_at (group (group p 2) 1)) _
      (behind_operand x ts (part p 2) m.1.1.0))
      (λ a6. given_there (parts.heritage_in ts (group p 3)) _
      (heritage_found x ts (part p 3) m.1.1.1.0)
      (λ a7. given_there (turns (λ turn. member_at turn 0)
      (group p 4)) _ (turns_in
      (λ v. Meets ts absent (of as_member rest)
      (part v)) (λ turn. member_at turn 0)
      (λ t8 h8. h8.0) (part p 4) m.1.1.1.1.0)
      (λ a9. tt)))))))

  pub expr_AbstractClass : (from : ℕ) (r : Range) (p : Value) → Meets ts absent (needs_expr l.AbstractClass) (part p)
      → IsThere (option_map vExpr.Class (typed.typed_class x ts true r p))
  unfolding typed.typed_class
  expr_AbstractClass from r p m =
      map_there (typed.typed_class x ts true r p) _
      (given_there (own_name_at x ts p 0) _ (m.0 x)
      (λ a1. given_there (parts.params_part_at p 1) _
      (map_there (optional type_params_at (group p 1)) _
      (optional_in (λ v. Meets ts absent (of as_type_params rest) (part v)) type_params_at
      (λ g2 h2. h2.0) (part p 1) m.1.0))
      (λ a3. given_there (optional expr_at (group p 2)) _
      (optional_in (λ v. Meets ts absent (of as_expr (maybe (of as_arguments rest) rest))
      (part v)) expr_at (λ g4 h4. h4.0) (part p 2) m.1.1.0)
      (λ a5. given_there (parts.args_part_at (group p 2) 1) _
      (map_there (optional arguments_at (group (group p 2) 1)) _
      (behind_operand x ts (part p 2) m.1.1.0))
      (λ a6. given_there (parts.heritage_in ts (group p 3)) _
      (heritage_found x ts (part p 3) m.1.1.1.0)
      (λ a7. given_there (turns (λ turn. member_at turn 0)
      (group p 4)) _ (turns_in
      (λ v. Meets ts absent (of as_member rest)
      (part v)) (λ turn. member_at turn 0)
      (λ t8 h8. h8.0) (part p 4) m.1.1.1.1.0)
      (λ a9. tt)))))))

  pub expr_TypedNew : (from : ℕ) (r : Range) (p : Value) → Meets ts absent (needs_expr l.TypedNew) (part p)
      → IsThere (typed_exprs.typed_new r p)
  unfolding typed_exprs.typed_new
  expr_TypedNew from r p m =
      given_there (expr_at p 0) _ m.0
      (λ a1. given_there (parts.args_part_at p 1) _
      (map_there (optional arguments_at (group p 1)) _
      (optional_in (λ v. Meets ts absent (of as_arguments rest) (part v)) arguments_at (λ g2 h2. h2.0)
      (part p 1) m.1.0)) (λ a3. given_there (optional args_at (group p 2)) _
      (optional_in (λ v. Meets ts absent (of as_args rest) (part v)) args_at (λ g4 h4. h4.0)
      (part p 2) m.1.1.0) (λ a5. tt)))

  pub expr_TypedBinary : (from : ℕ) (r : Range) (p : Value) → Meets ts absent (needs_expr l.TypedBinary) (part p)
      → IsThere (typed_exprs.typed_binary ts r p)
  unfolding typed_exprs.typed_binary
  expr_TypedBinary from r p m =
      given_there (expr_at p 0) _ m.0 (λ a1. turned_found x ts r a1 (part p 0) (group p 1) m.1.0)

  pub expr_TypeAssertion : (from : ℕ) (r : Range) (p : Value)
      → Meets ts absent (needs_expr l.TypeAssertion) (part p) → IsThere (typed_exprs.type_assertion r p)
  unfolding typed_exprs.type_assertion
  expr_TypeAssertion from r p m = given_there (expr_at p 1) _ m.1.0 (λ a1. before_found x ts r a1 p m.0)

  pub expr_TypedParenthesizedArrow : (from : ℕ) (r : Range) (p : Value)
      → Meets ts absent (needs_expr l.TypedParenthesizedArrow) (part p) → IsThere (typed.typed_arrow ts false r p)
  unfolding typed.typed_arrow
  expr_TypedParenthesizedArrow from r p m =
      given_there (parts.params_part_at p 0) _
      (map_there (optional type_params_at (group p 0)) _
      (optional_in (λ v. Meets ts absent (of as_type_params rest) (part v)) type_params_at (λ g1 h1. h1.0)
      (part p 0) m.0)) (λ a2. given_there (params_at p 1) _ m.1.0
      (λ a3. given_there (parts.annotation_at p 2) _
      (map_there (optional type_at (group p 2)) _
      (optional_in (λ v. Meets ts absent (of as_type rest) (part v)) type_at (λ g4 h4. h4.0)
      (part p 2) m.1.1.0))
      (λ a5. given_there (functions.body_of ts (part (group p 3) 0)) _
      (body_found x ts (group p 3) m.1.1.1.0) (λ a6. tt))))

  pub expr_TypedAsyncParenthesizedArrow : (from : ℕ) (r : Range) (p : Value)
      → Meets ts absent (needs_expr l.TypedAsyncParenthesizedArrow) (part p) → IsThere (typed.typed_arrow ts true r p)
  unfolding typed.typed_arrow
  expr_TypedAsyncParenthesizedArrow from r p m =
      given_there (parts.params_part_at p 0) _
      (map_there (optional type_params_at (group p 0)) _
      (optional_in (λ v. Meets ts absent (of as_type_params rest) (part v)) type_params_at (λ g1 h1. h1.0)
      (part p 0) m.0)) (λ a2. given_there (params_at p 1) _ m.1.0
      (λ a3. given_there (parts.annotation_at p 2) _
      (map_there (optional type_at (group p 2)) _
      (optional_in (λ v. Meets ts absent (of as_type rest) (part v)) type_at (λ g4 h4. h4.0)
      (part p 2) m.1.1.0))
      (λ a5. given_there (functions.body_of ts (part (group p 3) 0)) _
      (body_found x ts (group p 3) m.1.1.1.0) (λ a6. tt))))

  pub post_MemberPost : (from : ℕ) (r : Range) (p : Value) → Meets ts absent (needs_post l.MemberPost) (part p)
      → IsThere (exprs.member_post x ts r p)
  unfolding exprs.member_post
  post_MemberPost from r p m = map_there (property_at x ts p 0) _ (property_found x (token_at ts p 0) m.0)

  pub post_IndexPost : (from : ℕ) (r : Range) (p : Value) → Meets ts absent (needs_post l.IndexPost) (part p)
      → IsThere (exprs.index_post r p)
  unfolding exprs.index_post
  post_IndexPost from r p m = map_there (expr_at p 0) _ m.0

  pub post_CallPost : (from : ℕ) (r : Range) (p : Value) → Meets ts absent (needs_post l.CallPost) (part p)
      → IsThere (exprs.call_post r p)
  unfolding exprs.call_post
  post_CallPost from r p m = map_there (args_at p 0) _ m.0

  pub post_TemplatePost : (from : ℕ) (r : Range) (p : Value) → Meets ts absent (needs_post l.TemplatePost) (part p)
      → IsThere (exprs.template_post r p)
  unfolding exprs.template_post
  post_TemplatePost from r p m = map_there (expr_at p 0) _ m.0

  pub post_OptionalPost : (from : ℕ) (r : Range) (p : Value) → Meets ts absent (needs_post l.OptionalPost) (part p)
      → IsThere (exprs.optional_post x ts r p)
  unfolding exprs.optional_post
  post_OptionalPost from r p m = optional_found x ts r (group p 0) m.0

  pub post_TypedCallPost : (from : ℕ) (r : Range) (p : Value) → Meets ts absent (needs_post l.TypedCallPost) (part p)
      → IsThere (typed_exprs.typed_call_post r p)
  unfolding typed_exprs.typed_call_post
  post_TypedCallPost from r p m =
      given_there (parts.args_part_at p 0) _
      (map_there (optional arguments_at (group p 0)) _
      (optional_in (λ v. Meets ts absent (of as_arguments rest) (part v)) arguments_at (λ g1 h1. h1.0)
      (part p 0) m.0)) (λ a2. given_there (args_at p 1) _ m.1.0 (λ a3. tt))

  pub post_TypedTemplatePost : (from : ℕ) (r : Range) (p : Value)
      → Meets ts absent (needs_post l.TypedTemplatePost) (part p) → IsThere (typed_exprs.typed_template_post r p)
  unfolding typed_exprs.typed_template_post
  post_TypedTemplatePost from r p m =
      given_there (parts.args_part_at p 0) _
      (map_there (optional arguments_at (group p 0)) _
      (optional_in (λ v. Meets ts absent (of as_arguments rest) (part v)) arguments_at (λ g1 h1. h1.0)
      (part p 0) m.0)) (λ a2. map_there (expr_at p 1) _ m.1.0)

  pub post_TypedOptionalPost : (from : ℕ) (r : Range) (p : Value)
      → Meets ts absent (needs_post l.TypedOptionalPost) (part p) → IsThere (typed_exprs.typed_optional_post x ts r p)
  unfolding typed_exprs.typed_optional_post
  post_TypedOptionalPost from r p m = typed_optional_found x ts r (group p 0) m.0

  pub post_NonNullPost : (from : ℕ) (r : Range) (p : Value) → Meets ts absent (needs_post l.NonNullPost) (part p)
      → IsThere (typed_exprs.non_null_post r)
  unfolding typed_exprs.non_null_post
  post_NonNullPost from r p m = tt

  pub args_Arguments : (from : ℕ) (r : Range) (p : Value) → Meets ts absent (needs_args l.Arguments) (part p)
      → IsThere (exprs.arguments ts p)
  unfolding exprs.arguments
  args_Arguments from r p m =
      turns_in (λ v. Meets ts absent (any (of as_expr rest)) (part v)) (exprs.argument ts)
      (λ t1 h1. map_there (expr_at t1 1) _ h1.1.0) (part p 0) m.0
