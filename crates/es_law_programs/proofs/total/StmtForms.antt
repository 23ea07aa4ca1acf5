-- What the nodes of patterns, functions, classes, statements and declarations are, where their parts are such.
use Rattle.std.specs.Prelude.{true, false, List, Some, option_map}
use Rattle.std.proofs.Common.{ℕ, ◌+◌}
use Rattle.base.specs.declared.range.Range.{Range}
use Rattle.es_token.specs.declared.token.Token.{Token}
use Rattle.es_ast.specs.declared.ts.leaf.MethodKind.TheVariants as vMethod
use Rattle.es_ast.specs.declared.ts.ts.TsPart.TheVariants as vPart
use Rattle.es_ast.specs.declared.ast.Decl.TheVariants as vDecl
use Rattle.es_ast.specs.declared.ast.Stmt.TheVariants as vStmt
use Rattle.es_ast.specs.declared.ast.Pat.TheVariants as vPat
use Rattle.es_ast.specs.declared.ast.ClassMember.TheVariants as vMember
use Rattle.es_grammar.specs.declared.rows.NodeKind.TheVariants as l
use Rattle.es_lowering.specs.Value.{Value, absent, given, part, group, behind, optional, is_there, turns, expr_at, pat_at, stmt_at, item_at, block_at, variables_at, declarator_at, head_at, param_at, params_at, pat_prop_at, member_at, key_at, entity_at, marked_at, signature_at, declarable_at, type_at, arguments_at, type_params_at, type_member_at}
use Rattle.es_lowering.specs.Texts.{token_at, kind_at, ident_at, private_at, str_at, numeric_at, own_name_at}
use Rattle.es_lowering.specs.Operators.{listed, variable_kinds, accessor_kinds}
use Rattle.es_lowering.specs.Expressions as exprs
use Rattle.es_lowering.specs.Patterns as pats
use Rattle.es_lowering.specs.Functions as functions
use Rattle.es_lowering.specs.Classes as classes
use Rattle.es_lowering.specs.Statements as stmts
use Rattle.es_lowering.specs.TypedParts as parts
use Rattle.es_lowering.specs.TypedFunctions as typed
use Rattle.es_lowering.specs.TypedStatements as typed_stmts
use Rattle.es_law_programs.proofs.total.Uses.{as_expr, as_pat, as_stmt, as_item, as_declarator, as_param, as_pat_prop, as_member, as_key, as_type, as_arguments, as_type_params, as_type_member, IsThere}
use Rattle.es_law_programs.proofs.total.Needs.{rest, of, leaf, maybe, Meets}
use Rattle.es_law_programs.proofs.total.Words.{given_there, map_there, listed_there, numeric_found, private_found}
use Rattle.es_law_programs.proofs.total.Parts.{optional_in, turns_in, elements_in, stmt_body_found, returned_found, marked_found, handled_found, typed_handled_found, clauses_in, items_found, heritage_found, behind_operand, modifiers_found}
use Rattle.es_law_programs.proofs.total.Table.{needs_pat, needs_marked, needs_variables, needs_declarable, needs_decl, needs_block, needs_stmt, needs_declarator, needs_param, needs_head, needs_params, needs_signature, needs_pat_prop, needs_key, needs_prop, needs_member}

module _ (x : List ℕ) (ts : List Token) where
  pub pat_NamePattern : (from : ℕ) (r : Range) (p : Value) → Meets ts absent (needs_pat l.NamePattern) (part p)
      → IsThere (pats.name_pattern x ts p)
  unfolding pats.name_pattern
  pat_NamePattern from r p m = map_there (token_at ts p 0) _ m.0

  pub pat_ArrayPattern : (from : ℕ) (r : Range) (p : Value) → Meets ts absent (needs_pat l.ArrayPattern) (part p)
      → IsThere (pats.array_pattern ts from r p)
  unfolding pats.array_pattern
  pat_ArrayPattern from r p m =
      map_there (exprs.elements vPat.Hole pat_at ts (from + 1) (group p 0)) _
      (elements_in x ts as_pat vPat.Hole pat_at (λ v h vs. h) (from + 1) (part p 0) m.0)

  pub pat_ObjectPattern : (from : ℕ) (r : Range) (p : Value) → Meets ts absent (needs_pat l.ObjectPattern) (part p)
      → IsThere (pats.object_pattern r p)
  unfolding pats.object_pattern
  pat_ObjectPattern from r p m =
      map_there (turns (λ turn. pat_prop_at turn 0) (group p 0)) _
      (turns_in (λ v. Meets ts absent (of as_pat_prop rest) (part v)) (λ turn. pat_prop_at turn 0) (λ t1 h1. h1.0)
      (part p 0) m.0)

  pub pat_RestPattern : (from : ℕ) (r : Range) (p : Value) → Meets ts absent (needs_pat l.RestPattern) (part p)
      → IsThere (pats.rest_pattern r p)
  unfolding pats.rest_pattern
  pat_RestPattern from r p m = map_there (pat_at p 0) _ m.0

  pub pat_DefaultPattern : (from : ℕ) (r : Range) (p : Value) → Meets ts absent (needs_pat l.DefaultPattern) (part p)
      → IsThere (pats.default_pattern r p)
  unfolding pats.default_pattern
  pat_DefaultPattern from r p m = given_there (pat_at p 0) _ m.0 (λ a1. given_there (expr_at p 1) _ m.1.0 (λ a2. tt))

  pub marked_NamePattern : (from : ℕ) (r : Range) (p : Value) → Meets ts absent (needs_marked l.NamePattern) (part p)
      → IsThere (parts.marked_name x ts p)
  unfolding parts.marked_name
  marked_NamePattern from r p m = map_there (ident_at x ts p 0) _ (map_there (token_at ts p 0) _ m.0)

  pub marked_ArrayPattern : (from : ℕ) (r : Range) (p : Value) → Meets ts absent (needs_marked l.ArrayPattern) (part p)
      → IsThere (parts.marked_array ts from p)
  unfolding parts.marked_array
  marked_ArrayPattern from r p m =
      map_there (exprs.elements vPat.Hole pat_at ts (from + 1) (group p 0)) _
      (elements_in x ts as_pat vPat.Hole pat_at (λ v h vs. h) (from + 1) (part p 0) m.0)

  pub marked_ObjectPattern : (from : ℕ) (r : Range) (p : Value)
      → Meets ts absent (needs_marked l.ObjectPattern) (part p) → IsThere (parts.marked_object p)
  unfolding parts.marked_object
  marked_ObjectPattern from r p m =
      map_there (turns (λ turn. pat_prop_at turn 0) (group p 0)) _
      (turns_in (λ v. Meets ts absent (of as_pat_prop rest) (part v)) (λ turn. pat_prop_at turn 0) (λ t1 h1. h1.0)
      (part p 0) m.0)

  pub variables_Variables : (from : ℕ) (r : Range) (p : Value) → Meets ts absent (needs_variables l.Variables) (part p)
      → IsThere (stmts.variables ts p)
  unfolding stmts.variables variable_kinds
  variables_Variables from r p m =
      given_there (given (kind_at ts p 0) (listed variable_kinds)) _
      (listed_there variable_kinds (token_at ts p 0) m.0)
      (λ a1. given_there (stmts.declarators_at p 1) _
      (given_there (declarator_at p 1) _ m.1.0
      (λ a2. given_there (turns (λ turn. declarator_at turn 0) (group p 2)) _
      (turns_in (λ v. Meets ts absent (of as_declarator rest) (part v))
      (λ turn. declarator_at turn 0) (λ t3 h3. h3.0) (part p 2) m.1.1.0) (λ a4. tt)))
      (λ a5. tt))

  pub variables_Using : (from : ℕ) (r : Range) (p : Value) → Meets ts absent (needs_variables l.Using) (part p)
      → IsThere (stmts.using_ p)
  unfolding stmts.using_
  variables_Using from r p m =
      given_there (stmts.declarators_at p 1) _
      (given_there (declarator_at p 1) _ m.1.0
      (λ a1. given_there (turns (λ turn. declarator_at turn 0) (group p 2)) _
      (turns_in (λ v. Meets ts absent (of as_declarator rest) (part v)) (λ turn. declarator_at turn 0)
      (λ t2 h2. h2.0) (part p 2) m.1.1.0) (λ a3. tt))) (λ a4. tt)

  pub declarable_TypedFunction : (from : ℕ) (r : Range) (p : Value)
      → Meets ts absent (needs_declarable l.TypedFunction) (part p)
      → IsThere {A = typed_stmts.Declarable}
      (option_map (λ function declare span. vDecl.Fn declare function span)
      (typed.typed_function x ts false r p))
  unfolding typed.typed_function
  declarable_TypedFunction from r p m =
      map_there (typed.typed_function x ts false r p) _
      (given_there (own_name_at x ts p 1) _ (m.1.0 x)
      (λ a1. given_there (signature_at p 2) _ m.1.1.0
      (λ a2. given_there (parts.body_in (group p 3)) _ (stmt_body_found x ts (group p 3) m.1.1.1.0)
      (λ a3. tt))))

  pub declarable_TypedAsyncFunction : (from : ℕ) (r : Range) (p : Value)
      → Meets ts absent (needs_declarable l.TypedAsyncFunction) (part p)
      → IsThere {A = typed_stmts.Declarable}
      (option_map (λ function declare span. vDecl.Fn declare function span)
      (typed.typed_function x ts true r p))
  unfolding typed.typed_function
  declarable_TypedAsyncFunction from r p m =
      map_there (typed.typed_function x ts true r p) _
      (given_there (own_name_at x ts p 1) _ (m.1.0 x)
      (λ a1. given_there (signature_at p 2) _ m.1.1.0
      (λ a2. given_there (parts.body_in (group p 3)) _ (stmt_body_found x ts (group p 3) m.1.1.1.0)
      (λ a3. tt))))

  pub declarable_TypedClass : (from : ℕ) (r : Range) (p : Value)
      → Meets ts absent (needs_declarable l.TypedClass) (part p)
      → IsThere {A = typed_stmts.Declarable}
      (option_map (λ class declare span. vDecl.Class declare class span) (typed.typed_class x ts false r p))
  unfolding typed.typed_class
  declarable_TypedClass from r p m =
      map_there (typed.typed_class x ts false r p) _
      (given_there (own_name_at x ts p 0) _ (m.0 x)
      (λ a1. given_there (parts.params_part_at p 1) _
      (map_there (optional type_params_at (group p 1)) _
      (optional_in (λ v. Meets ts absent (of as_type_params rest) (part v)) type_params_at
      (λ g2 h2. h2.0) (part p 1) m.1.0))
      (λ a3. given_there (optional expr_at (group p 2)) _
      (optional_in (λ v. Meets ts absent (of as_expr (maybe (of as_arguments rest) rest))
      (part v)) expr_at (λ g4 h4. h4.0) (part p 2) m.1.1.0)
      (λ a5. given_there (parts.args_part_at (group p 2) 1) _
      (map_there (optional arguments_at (group (group p 2) 1)) _
      (behind_operand x ts (part p 2) m.1.1.0))
      (λ a6. given_there (parts.heritage_in ts (group p 3)) _
      (heritage_found x ts (part p 3) m.1.1.1.0)
      (λ a7. given_there (turns (λ turn. member_at turn 0)
      (group p 4)) _ (turns_in
      (λ v. Meets ts absent (of as_member rest)
      (part v)) (λ turn. member_at turn 0)
      (λ t8 h8. h8.0) (part p 4) m.1.1.1.1.0)
      (λ a9. tt)))))))

  pub declarable_AbstractClass : (from : ℕ) (r : Range) (p : Value)
      → Meets ts absent (needs_declarable l.AbstractClass) (part p)
      → IsThere {A = typed_stmts.Declarable}
      (option_map (λ class declare span. vDecl.Class declare class span) (typed.typed_class x ts true r p))
  unfolding typed.typed_class
  declarable_AbstractClass from r p m =
      map_there (typed.typed_class x ts true r p) _
      (given_there (own_name_at x ts p 0) _ (m.0 x)
      (λ a1. given_there (parts.params_part_at p 1) _
      (map_there (optional type_params_at (group p 1)) _
      (optional_in (λ v. Meets ts absent (of as_type_params rest) (part v)) type_params_at
      (λ g2 h2. h2.0) (part p 1) m.1.0))
      (λ a3. given_there (optional expr_at (group p 2)) _
      (optional_in (λ v. Meets ts absent (of as_expr (maybe (of as_arguments rest) rest))
      (part v)) expr_at (λ g4 h4. h4.0) (part p 2) m.1.1.0)
      (λ a5. given_there (parts.args_part_at (group p 2) 1) _
      (map_there (optional arguments_at (group (group p 2) 1)) _
      (behind_operand x ts (part p 2) m.1.1.0))
      (λ a6. given_there (parts.heritage_in ts (group p 3)) _
      (heritage_found x ts (part p 3) m.1.1.1.0)
      (λ a7. given_there (turns (λ turn. member_at turn 0)
      (group p 4)) _ (turns_in
      (λ v. Meets ts absent (of as_member rest)
      (part v)) (λ turn. member_at turn 0)
      (λ t8 h8. h8.0) (part p 4) m.1.1.1.1.0)
      (λ a9. tt)))))))

  pub declarable_InterfaceDeclaration : (from : ℕ) (r : Range) (p : Value)
      → Meets ts absent (needs_declarable l.InterfaceDeclaration) (part p)
      → IsThere {A = typed_stmts.Declarable} (typed_stmts.interface x ts p)
  unfolding typed_stmts.interface
  declarable_InterfaceDeclaration from r p m =
      given_there (ident_at x ts p 0) _ (map_there (token_at ts p 0) _ m.0)
      (λ a1. given_there (parts.params_part_at p 1) _
      (map_there (optional type_params_at (group p 1)) _
      (optional_in (λ v. Meets ts absent (of as_type_params rest) (part v)) type_params_at (λ g2 h2. h2.0)
      (part p 1) m.1.0)) (λ a3. given_there (parts.heritage_in ts (group p 2)) _
      (heritage_found x ts (part p 2) m.1.1.0)
      (λ a4. given_there (option_map vPart.Members
      (turns (λ turn. type_member_at turn 0) (group p 3))) _
      (map_there (turns (λ turn. type_member_at turn 0) (group p 3)) _
      (turns_in (λ v. Meets ts absent (of as_type_member rest) (part v))
      (λ turn. type_member_at turn 0) (λ t5 h5. h5.0) (part p 3) m.1.1.1.0))
      (λ a6. tt))))

  pub declarable_AliasDeclaration : (from : ℕ) (r : Range) (p : Value)
      → Meets ts absent (needs_declarable l.AliasDeclaration) (part p)
      → IsThere {A = typed_stmts.Declarable} (typed_stmts.alias x ts p)
  unfolding typed_stmts.alias
  declarable_AliasDeclaration from r p m =
      given_there (ident_at x ts p 0) _ (map_there (token_at ts p 0) _ m.0)
      (λ a1. given_there (parts.params_part_at p 1) _
      (map_there (optional type_params_at (group p 1)) _
      (optional_in (λ v. Meets ts absent (of as_type_params rest) (part v)) type_params_at (λ g2 h2. h2.0)
      (part p 1) m.1.0)) (λ a3. given_there (option_map vPart.TypeAnn (type_at p 2)) _
      (map_there (type_at p 2) _ m.1.1.0) (λ a4. tt)))

  pub declarable_EnumDeclaration : (from : ℕ) (r : Range) (p : Value)
      → Meets ts absent (needs_declarable l.EnumDeclaration) (part p)
      → IsThere {A = typed_stmts.Declarable} (typed_stmts.enum_ x ts p)
  unfolding typed_stmts.enum_
  declarable_EnumDeclaration from r p m =
      given_there (ident_at x ts p 1) _ (map_there (token_at ts p 1) _ m.1.0)
      (λ a1. given_there (turns (typed_stmts.enum_member ts) (group p 2)) _
      (turns_in (λ v. Meets ts absent (of as_key (maybe (of as_expr rest) rest)) (part v))
      (typed_stmts.enum_member ts)
      (λ t2 h2. given_there (key_at t2 0) _ h2.0
      (λ a3. given_there (optional expr_at (group t2 1)) _
      (optional_in (λ v. Meets ts absent (of as_expr rest) (part v)) expr_at (λ g4 h4. h4.0)
      (part t2 1) h2.1.0) (λ a5. tt))) (part p 2) m.1.1.0) (λ a6. tt))

  pub declarable_NamespaceDeclaration : (from : ℕ) (r : Range) (p : Value)
      → Meets ts absent (needs_declarable l.NamespaceDeclaration) (part p)
      → IsThere {A = typed_stmts.Declarable} (typed_stmts.namespace ts p)
  unfolding typed_stmts.namespace
  declarable_NamespaceDeclaration from r p m =
      given_there (kind_at ts p 0) _ (map_there (token_at ts p 0) _ m.0)
      (λ a1. given_there (entity_at p 1) _ m.1.0
      (λ a2. given_there (typed_stmts.items_of (group p 2)) _
      (turns_in (λ v. Meets ts absent (of as_item rest) (part v)) (λ turn. item_at turn 0) (λ t3 h3. h3.0)
      (part p 2) m.1.1.0) (λ a4. tt)))

  pub declarable_ModuleDeclaration : (from : ℕ) (r : Range) (p : Value)
      → Meets ts absent (needs_declarable l.ModuleDeclaration) (part p)
      → IsThere {A = typed_stmts.Declarable} (typed_stmts.module_namespace x ts p)
  unfolding typed_stmts.module_namespace
  declarable_ModuleDeclaration from r p m =
      given_there (str_at x ts p 0) _ (map_there (token_at ts p 0) _ m.0)
      (λ a1. given_there (typed_stmts.items_of (group (group p 1) 0)) _ (items_found x ts (group p 1) m.1.0)
      (λ a2. tt))

  pub declarable_GlobalDeclaration : (from : ℕ) (r : Range) (p : Value)
      → Meets ts absent (needs_declarable l.GlobalDeclaration) (part p)
      → IsThere {A = typed_stmts.Declarable} (typed_stmts.global p)
  unfolding typed_stmts.global
  declarable_GlobalDeclaration from r p m =
      map_there (typed_stmts.items_of (group p 0)) _
      (turns_in (λ v. Meets ts absent (of as_item rest) (part v)) (λ turn. item_at turn 0) (λ t1 h1. h1.0)
      (part p 0) m.0)

  pub decl_Function : (from : ℕ) (r : Range) (p : Value) → Meets ts absent (needs_decl l.Function) (part p)
      → IsThere (option_map (λ function. vDecl.Fn false function r) (functions.function x ts false r p))
  unfolding functions.function
  decl_Function from r p m =
      map_there (functions.function x ts false r p) _
      (given_there (own_name_at x ts p 1) _ (m.1.0 x)
      (λ a1. given_there (params_at p 2) _ m.1.1.0 (λ a2. given_there (stmt_at p 3) _ m.1.1.1.0 (λ a3. tt))))

  pub decl_AsyncFunction : (from : ℕ) (r : Range) (p : Value) → Meets ts absent (needs_decl l.AsyncFunction) (part p)
      → IsThere (option_map (λ function. vDecl.Fn false function r) (functions.function x ts true r p))
  unfolding functions.function
  decl_AsyncFunction from r p m =
      map_there (functions.function x ts true r p) _
      (given_there (own_name_at x ts p 1) _ (m.1.0 x)
      (λ a1. given_there (params_at p 2) _ m.1.1.0 (λ a2. given_there (stmt_at p 3) _ m.1.1.1.0 (λ a3. tt))))

  pub decl_Class : (from : ℕ) (r : Range) (p : Value) → Meets ts absent (needs_decl l.Class) (part p)
      → IsThere (option_map (λ class. vDecl.Class false class r) (classes.class_ x ts r p))
  unfolding classes.class_
  decl_Class from r p m =
      map_there (classes.class_ x ts r p) _
      (given_there (own_name_at x ts p 0) _ (m.0 x)
      (λ a1. given_there (optional expr_at (group p 1)) _
      (optional_in (λ v. Meets ts absent (of as_expr rest) (part v)) expr_at (λ g2 h2. h2.0) (part p 1)
      m.1.0) (λ a3. given_there (turns (λ turn. member_at turn 0) (group p 2)) _
      (turns_in (λ v. Meets ts absent (of as_member rest) (part v)) (λ turn. member_at turn 0)
      (λ t4 h4. h4.0) (part p 2) m.1.1.0) (λ a5. tt))))

  pub decl_VariableDeclaration : (from : ℕ) (r : Range) (p : Value)
      → Meets ts absent (needs_decl l.VariableDeclaration) (part p) → IsThere (stmts.variable_declaration r p)
  unfolding stmts.variable_declaration
  decl_VariableDeclaration from r p m = map_there (variables_at p 0) _ m.0

  pub decl_UsingDeclaration : (from : ℕ) (r : Range) (p : Value)
      → Meets ts absent (needs_decl l.UsingDeclaration) (part p) → IsThere (stmts.variable_declaration r p)
  unfolding stmts.variable_declaration
  decl_UsingDeclaration from r p m = map_there (variables_at p 0) _ m.0

  pub decl_Variables : (from : ℕ) (r : Range) (p : Value) → Meets ts absent (needs_decl l.Variables) (part p)
      → IsThere (option_map (stmts.decl_of r) (stmts.variables ts p))
  unfolding stmts.variables variable_kinds
  decl_Variables from r p m =
      map_there (stmts.variables ts p) _
      (given_there (given (kind_at ts p 0) (listed variable_kinds)) _
      (listed_there variable_kinds (token_at ts p 0) m.0)
      (λ a1. given_there (stmts.declarators_at p 1) _
      (given_there (declarator_at p 1) _ m.1.0
      (λ a2. given_there (turns (λ turn. declarator_at turn 0) (group p 2)) _
      (turns_in (λ v. Meets ts absent (of as_declarator rest) (part v))
      (λ turn. declarator_at turn 0) (λ t3 h3. h3.0) (part p 2) m.1.1.0) (λ a4. tt)))
      (λ a5. tt)))

  pub decl_Using : (from : ℕ) (r : Range) (p : Value) → Meets ts absent (needs_decl l.Using) (part p)
      → IsThere (option_map (stmts.decl_of r) (stmts.using_ p))
  unfolding stmts.using_
  decl_Using from r p m =
      map_there (stmts.using_ p) _
      (given_there (stmts.declarators_at p 1) _
      (given_there (declarator_at p 1) _ m.1.0
      (λ a1. given_there (turns (λ turn. declarator_at turn 0) (group p 2)) _
      (turns_in (λ v. Meets ts absent (of as_declarator rest) (part v)) (λ turn. declarator_at turn 0)
      (λ t2 h2. h2.0) (part p 2) m.1.1.0) (λ a3. tt))) (λ a4. tt))

  pub decl_Declared : (from : ℕ) (r : Range) (p : Value) → Meets ts absent (needs_decl l.Declared) (part p)
      → IsThere (typed_stmts.declared r p)
  unfolding typed_stmts.declared
  decl_Declared from r p m = map_there (declarable_at p 0) _ m.0

  pub decl_DeclaredVariables : (from : ℕ) (r : Range) (p : Value)
      → Meets ts absent (needs_decl l.DeclaredVariables) (part p) → IsThere (typed_stmts.declared_variables r p)
  unfolding typed_stmts.declared_variables
  decl_DeclaredVariables from r p m = map_there (variables_at p 0) _ m.0

  pub block_Block : (from : ℕ) (r : Range) (p : Value) → Meets ts absent (needs_block l.Block) (part p)
      → IsThere (stmts.block p)
  unfolding stmts.block
  block_Block from r p m =
      turns_in (λ v. Meets ts absent (of as_stmt rest) (part v)) (λ turn. stmt_at turn 0) (λ t1 h1. h1.0) (part p 0) m.0

  pub stmt_Block : (from : ℕ) (r : Range) (p : Value) → Meets ts absent (needs_stmt l.Block) (part p)
      → IsThere (option_map (λ stmts. vStmt.Block stmts r) (stmts.block p))
  unfolding stmts.block
  stmt_Block from r p m =
      map_there (stmts.block p) _
      (turns_in (λ v. Meets ts absent (of as_stmt rest) (part v)) (λ turn. stmt_at turn 0) (λ t1 h1. h1.0)
      (part p 0) m.0)

  pub stmt_EmptyStatement : (from : ℕ) (r : Range) (p : Value) → Meets ts absent (needs_stmt l.EmptyStatement) (part p)
      → IsThere (Some (vStmt.Empty r))
  stmt_EmptyStatement from r p m = tt

  pub stmt_ExpressionStatement : (from : ℕ) (r : Range) (p : Value)
      → Meets ts absent (needs_stmt l.ExpressionStatement) (part p) → IsThere (stmts.expression_statement r p)
  unfolding stmts.expression_statement
  stmt_ExpressionStatement from r p m = map_there (expr_at p 0) _ m.0

  pub stmt_LabelledStatement : (from : ℕ) (r : Range) (p : Value)
      → Meets ts absent (needs_stmt l.LabelledStatement) (part p) → IsThere (stmts.labelled x ts r p)
  unfolding stmts.labelled
  stmt_LabelledStatement from r p m =
      given_there (ident_at x ts p 0) _ (map_there (token_at ts p 0) _ m.0)
      (λ a1. given_there (stmt_at p 1) _ m.1.0 (λ a2. tt))

  pub stmt_IfStatement : (from : ℕ) (r : Range) (p : Value) → Meets ts absent (needs_stmt l.IfStatement) (part p)
      → IsThere (stmts.if_ r p)
  unfolding stmts.if_
  stmt_IfStatement from r p m =
      given_there (expr_at p 0) _ m.0
      (λ a1. given_there (stmt_at p 1) _ m.1.0
      (λ a2. given_there (optional stmt_at (group p 2)) _
      (optional_in (λ v. Meets ts absent (of as_stmt rest) (part v)) stmt_at (λ g3 h3. h3.0) (part p 2)
      m.1.1.0) (λ a4. tt)))

  pub stmt_ForStatement : (from : ℕ) (r : Range) (p : Value) → Meets ts absent (needs_stmt l.ForStatement) (part p)
      → IsThere (stmts.for_ ts r p)
  unfolding stmts.for_
  stmt_ForStatement from r p m =
      given_there (stmts.start_of_for ts p) _
      (given_there (optional stmt_at (group p 0)) _
      (optional_in (λ v. Meets ts absent (of as_stmt rest) (part v)) stmt_at (λ g1 h1. h1.0) (part p 0) m.0)
      (λ a2. given_there (optional stmt_at (group p 1)) _
      (optional_in (λ v. Meets ts absent (of as_stmt rest) (part v)) stmt_at (λ g3 h3. h3.0) (part p 1)
      m.1.0) (λ a4. given_there (optional (stmts.expression_at ts) (group p 2)) _
      (optional_in (λ v. Meets ts absent (of as_expr rest) (part v)) (stmts.expression_at ts)
      (λ g5 h5. map_there (expr_at g5 0) _ h5.0) (part p 2) m.1.1.0) (λ a6. tt))))
      (λ a7. given_there (optional expr_at (group p 3)) _
      (optional_in (λ v. Meets ts absent (of as_expr rest) (part v)) expr_at
      (λ g8 h8. h8.0) (part p 3) m.1.1.1.0)
      (λ a9. given_there (optional expr_at (group p 4)) _
      (optional_in (λ v. Meets ts absent (of as_expr rest) (part v))
      expr_at (λ g10 h10. h10.0) (part p 4) m.1.1.1.1.0)
      (λ a11. given_there (stmt_at p 5) _ m.1.1.1.1.1.0
      (λ a12. tt))))

  pub stmt_ForEachStatement : (from : ℕ) (r : Range) (p : Value)
      → Meets ts absent (needs_stmt l.ForEachStatement) (part p) → IsThere (stmts.for_each ts r p)
  unfolding stmts.for_each
  stmt_ForEachStatement from r p m =
      given_there (head_at p 0) _ m.0
      (λ a1. given_there (kind_at ts (group p 1) 0) _ (map_there (token_at ts (group p 1) 0) _ (m.1.0.0))
      (λ a2. given_there (expr_at (group p 1) 1) _ m.1.0.1.0
      (λ a3. given_there (stmt_at p 2) _ m.1.1.0 (λ a4. tt))))

  pub stmt_ForAwaitStatement : (from : ℕ) (r : Range) (p : Value)
      → Meets ts absent (needs_stmt l.ForAwaitStatement) (part p) → IsThere (stmts.for_await r p)
  unfolding stmts.for_await
  stmt_ForAwaitStatement from r p m =
      given_there (head_at p 0) _ m.0
      (λ a1. given_there (expr_at p 1) _ m.1.0 (λ a2. given_there (stmt_at p 2) _ m.1.1.0 (λ a3. tt)))

  pub stmt_WhileStatement : (from : ℕ) (r : Range) (p : Value) → Meets ts absent (needs_stmt l.WhileStatement) (part p)
      → IsThere (stmts.while_ r p)
  unfolding stmts.while_
  stmt_WhileStatement from r p m = given_there (expr_at p 0) _ m.0 (λ a1. given_there (stmt_at p 1) _ m.1.0 (λ a2. tt))

  pub stmt_DoStatement : (from : ℕ) (r : Range) (p : Value) → Meets ts absent (needs_stmt l.DoStatement) (part p)
      → IsThere (stmts.do_ r p)
  unfolding stmts.do_
  stmt_DoStatement from r p m = given_there (stmt_at p 0) _ m.0 (λ a1. given_there (expr_at p 1) _ m.1.0 (λ a2. tt))

  pub stmt_ContinueStatement : (from : ℕ) (r : Range) (p : Value)
      → Meets ts absent (needs_stmt l.ContinueStatement) (part p) → IsThere (stmts.continue_ x ts r p)
  unfolding stmts.continue_
  stmt_ContinueStatement from r p m =
      map_there (optional (ident_at x ts) (group p 0)) _
      (optional_in (λ v. Meets ts absent (leaf rest) (part v)) (ident_at x ts)
      (λ g1 h1. map_there (token_at ts g1 0) _ h1.0) (part p 0) m.0)

  pub stmt_BreakStatement : (from : ℕ) (r : Range) (p : Value) → Meets ts absent (needs_stmt l.BreakStatement) (part p)
      → IsThere (stmts.break_ x ts r p)
  unfolding stmts.break_
  stmt_BreakStatement from r p m =
      map_there (optional (ident_at x ts) (group p 0)) _
      (optional_in (λ v. Meets ts absent (leaf rest) (part v)) (ident_at x ts)
      (λ g1 h1. map_there (token_at ts g1 0) _ h1.0) (part p 0) m.0)

  pub stmt_ReturnStatement : (from : ℕ) (r : Range) (p : Value)
      → Meets ts absent (needs_stmt l.ReturnStatement) (part p) → IsThere (stmts.return_ r p)
  unfolding stmts.return_
  stmt_ReturnStatement from r p m = map_there (stmts.returned (group p 0)) _ (returned_found x ts (group p 0) m.0)

  pub stmt_ThrowStatement : (from : ℕ) (r : Range) (p : Value) → Meets ts absent (needs_stmt l.ThrowStatement) (part p)
      → IsThere (stmts.throw_ r p)
  unfolding stmts.throw_
  stmt_ThrowStatement from r p m = map_there (expr_at p 0) _ m.0

  pub stmt_SwitchStatement : (from : ℕ) (r : Range) (p : Value)
      → Meets ts absent (needs_stmt l.SwitchStatement) (part p) → IsThere (stmts.switch_ ts r p)
  unfolding stmts.switch_
  stmt_SwitchStatement from r p m =
      given_there (expr_at p 0) _ m.0
      (λ a1. given_there (stmts.clauses ts ((behind (part p 0)) + 2) (group p 1)) _
      (clauses_in x ts ((behind (part p 0)) + 2) (part p 1) m.1.0) (λ a2. tt))

  pub stmt_TryStatement : (from : ℕ) (r : Range) (p : Value) → Meets ts absent (needs_stmt l.TryStatement) (part p)
      → IsThere (stmts.try_ r p)
  unfolding stmts.try_
  stmt_TryStatement from r p m = given_there (stmt_at p 0) _ m.0 (λ a1. handled_found x ts r a1 (group p 1) m.1.0)

  pub stmt_DebuggerStatement : (from : ℕ) (r : Range) (p : Value)
      → Meets ts absent (needs_stmt l.DebuggerStatement) (part p) → IsThere (Some (vStmt.Debugger r))
  stmt_DebuggerStatement from r p m = tt

  pub stmt_WithStatement : (from : ℕ) (r : Range) (p : Value) → Meets ts absent (needs_stmt l.WithStatement) (part p)
      → IsThere (stmts.with_ r p)
  unfolding stmts.with_
  stmt_WithStatement from r p m = given_there (expr_at p 0) _ m.0 (λ a1. given_there (stmt_at p 1) _ m.1.0 (λ a2. tt))

  pub stmt_TypedTryStatement : (from : ℕ) (r : Range) (p : Value)
      → Meets ts absent (needs_stmt l.TypedTryStatement) (part p) → IsThere (typed_stmts.typed_try ts r p)
  unfolding typed_stmts.typed_try
  stmt_TypedTryStatement from r p m =
      given_there (stmt_at p 0) _ m.0 (λ a1. typed_handled_found x ts r a1 (group p 1) m.1.0)

  pub declarator_Declarator : (from : ℕ) (r : Range) (p : Value)
      → Meets ts absent (needs_declarator l.Declarator) (part p) → IsThere (stmts.declarator r p)
  unfolding stmts.declarator
  declarator_Declarator from r p m = given_there (pat_at p 0) _ m.0 (λ a1. given_there (expr_at p 1) _ m.1.0 (λ a2. tt))

  pub declarator_TypedDeclarator : (from : ℕ) (r : Range) (p : Value)
      → Meets ts absent (needs_declarator l.TypedDeclarator) (part p) → IsThere (typed_stmts.typed_declarator ts r p)
  unfolding typed_stmts.typed_declarator
  declarator_TypedDeclarator from r p m =
      given_there (parts.annotated_at ts p 0 2) _
      (given_there (parts.annotation_at p 2) _
      (map_there (optional type_at (group p 2)) _
      (optional_in (λ v. Meets ts absent (of as_type rest) (part v)) type_at (λ g1 h1. h1.0) (part p 2)
      m.1.1.0)) (λ a2. marked_found x ts (marked_at p 0) false a2 (parts.annotated_span ts p 0 2) m.0))
      (λ a3. given_there (optional expr_at (group p 3)) _
      (optional_in (λ v. Meets ts absent (of as_expr rest) (part v)) expr_at (λ g4 h4. h4.0)
      (part p 3) m.1.1.1.0) (λ a5. tt))

  pub param_DefaultParameter : (from : ℕ) (r : Range) (p : Value)
      → Meets ts absent (needs_param l.DefaultParameter) (part p) → IsThere (functions.default_parameter r p)
  unfolding functions.default_parameter
  param_DefaultParameter from r p m =
      given_there (pat_at p 0) _ m.0 (λ a1. given_there (expr_at p 1) _ m.1.0 (λ a2. tt))

  pub param_ThisParameter : (from : ℕ) (r : Range) (p : Value) → Meets ts absent (needs_param l.ThisParameter) (part p)
      → IsThere (parts.this_parameter ts r p)
  unfolding parts.this_parameter
  param_ThisParameter from r p m =
      given_there (token_at ts p 0) _ m.0
      (λ a1. given_there (parts.annotation_at p 2) _
      (map_there (optional type_at (group p 2)) _
      (optional_in (λ v. Meets ts absent (of as_type rest) (part v)) type_at (λ g2 h2. h2.0) (part p 2)
      m.1.1.0)) (λ a3. given_there (optional expr_at (group p 3)) _
      (optional_in (λ v. Meets ts absent (of as_expr rest) (part v)) expr_at (λ g4 h4. h4.0)
      (part p 3) m.1.1.1.0) (λ a5. tt)))

  pub param_PropertyParameter : (from : ℕ) (r : Range) (p : Value)
      → Meets ts absent (needs_param l.PropertyParameter) (part p) → IsThere (parts.property_parameter ts r p)
  unfolding parts.property_parameter
  param_PropertyParameter from r p m =
      given_there (parts.modifiers_in ts functions.plain (group p 0)) _
      (modifiers_found x ts functions.plain (part p 0) m.0)
      (λ a1. map_there (parts.tailed_at ts p 1) _
      (given_there (parts.annotation_at p 3) _
      (map_there (optional type_at (group p 3)) _
      (optional_in (λ v. Meets ts absent (of as_type rest) (part v)) type_at (λ g2 h2. h2.0)
      (part p 3) m.1.1.1.0))
      (λ a3. given_there (parts.marked_by (marked_at p 1) (is_there (group p 2)) a3
      (parts.typed_span ts p 1)) _
      (marked_found x ts (marked_at p 1) (is_there (group p 2)) a3
      (parts.typed_span ts p 1) m.1.0)
      (λ a4. given_there (optional expr_at (group p 4)) _
      (optional_in (λ v. Meets ts absent (of as_expr rest) (part v))
      expr_at (λ g5 h5. h5.0) (part p 4) m.1.1.1.1.0) (λ a6. tt)))))

  pub param_MarkedParameter : (from : ℕ) (r : Range) (p : Value)
      → Meets ts absent (needs_param l.MarkedParameter) (part p) → IsThere (parts.marked_parameter ts r p)
  unfolding parts.marked_parameter
  param_MarkedParameter from r p m =
      map_there (parts.tailed_at ts p 0) _
      (given_there (parts.annotation_at p 2) _
      (map_there (optional type_at (group p 2)) _
      (optional_in (λ v. Meets ts absent (of as_type rest) (part v)) type_at (λ g1 h1. h1.0) (part p 2)
      m.1.1.0)) (λ a2. given_there
      (parts.marked_by (marked_at p 0) (is_there (group p 1)) a2 (parts.typed_span ts p 0)) _
      (marked_found x ts (marked_at p 0) (is_there (group p 1)) a2 (parts.typed_span ts p 0)
      m.0) (λ a3. given_there (optional expr_at (group p 3)) _
      (optional_in (λ v. Meets ts absent (of as_expr rest) (part v)) expr_at
      (λ g4 h4. h4.0) (part p 3) m.1.1.1.0) (λ a5. tt))))

  pub head_VariableHead : (from : ℕ) (r : Range) (p : Value) → Meets ts absent (needs_head l.VariableHead) (part p)
      → IsThere (stmts.variable_head ts p)
  unfolding stmts.variable_head variable_kinds
  head_VariableHead from r p m =
      given_there (given (kind_at ts p 0) (listed variable_kinds)) _
      (listed_there variable_kinds (token_at ts p 0) m.0) (λ a1. given_there (pat_at p 1) _ m.1.0 (λ a2. tt))

  pub head_UsingHead : (from : ℕ) (r : Range) (p : Value) → Meets ts absent (needs_head l.UsingHead) (part p)
      → IsThere (stmts.using_head x ts p)
  unfolding stmts.using_head
  head_UsingHead from r p m = map_there (token_at ts p 1) _ m.1.0

  pub head_TypedVariableHead : (from : ℕ) (r : Range) (p : Value)
      → Meets ts absent (needs_head l.TypedVariableHead) (part p) → IsThere (typed_stmts.typed_head ts p)
  unfolding typed_stmts.typed_head variable_kinds
  head_TypedVariableHead from r p m =
      given_there (given (kind_at ts p 0) (listed variable_kinds)) _
      (listed_there variable_kinds (token_at ts p 0) m.0)
      (λ a1. given_there (parts.annotated_at ts p 1 2) _
      (given_there (parts.annotation_at p 2) _
      (map_there (optional type_at (group p 2)) _
      (optional_in (λ v. Meets ts absent (of as_type rest) (part v)) type_at (λ g2 h2. h2.0)
      (part p 2) m.1.1.0))
      (λ a3. marked_found x ts (marked_at p 1) false a3 (parts.annotated_span ts p 1 2)
      m.1.0)) (λ a4. tt))

  pub params_Parameters : (from : ℕ) (r : Range) (p : Value) → Meets ts absent (needs_params l.Parameters) (part p)
      → IsThere (functions.parameters ts p)
  unfolding functions.parameters
  params_Parameters from r p m =
      given_there (turns (λ turn. param_at turn 0) (group p 0)) _
      (turns_in (λ v. Meets ts absent (of as_param rest) (part v)) (λ turn. param_at turn 0) (λ t1 h1. h1.0)
      (part p 0) m.0) (λ a2. given_there (optional (functions.rest_at ts) (group p 1)) _
      (optional_in (λ v. Meets ts absent (of as_pat rest) (part v)) (functions.rest_at ts)
      (λ g3 h3. map_there (pat_at g3 0) _ h3.0) (part p 1) m.1.0) (λ a4. tt))

  pub params_Signature : (from : ℕ) (r : Range) (p : Value) → Meets ts absent (needs_params l.Signature) (part p)
      → IsThere (functions.signature p)
  unfolding functions.signature
  params_Signature from r p m = m.0

  pub params_TypedParameters : (from : ℕ) (r : Range) (p : Value)
      → Meets ts absent (needs_params l.TypedParameters) (part p) → IsThere (parts.typed_parameters ts p)
  unfolding parts.typed_parameters
  params_TypedParameters from r p m =
      given_there (turns (λ turn. param_at turn 0) (group p 0)) _
      (turns_in (λ v. Meets ts absent (of as_param rest) (part v)) (λ turn. param_at turn 0) (λ t1 h1. h1.0)
      (part p 0) m.0) (λ a2. given_there (optional (parts.typed_rest_at ts) (group p 1)) _
      (optional_in (λ v. Meets ts absent (of as_pat (maybe (of as_type rest) rest)) (part v))
      (parts.typed_rest_at ts)
      (λ g3 h3. given_there (pat_at g3 0) _ h3.0
      (λ a4. given_there (parts.annotation_at g3 1) _
      (map_there (optional type_at (group g3 1)) _
      (optional_in (λ v. Meets ts absent (of as_type rest) (part v)) type_at
      (λ g5 h5. h5.0) (part g3 1) h3.1.0)) (λ a6. tt))) (part p 1) m.1.0)
      (λ a7. tt))

  pub signature_TypedSignature : (from : ℕ) (r : Range) (p : Value)
      → Meets ts absent (needs_signature l.TypedSignature) (part p) → IsThere (parts.typed_signature p)
  unfolding parts.typed_signature
  signature_TypedSignature from r p m =
      given_there (parts.params_part_at p 0) _
      (map_there (optional type_params_at (group p 0)) _
      (optional_in (λ v. Meets ts absent (of as_type_params rest) (part v)) type_params_at (λ g1 h1. h1.0)
      (part p 0) m.0)) (λ a2. given_there (params_at p 1) _ m.1.0
      (λ a3. given_there (parts.annotation_at p 2) _
      (map_there (optional type_at (group p 2)) _
      (optional_in (λ v. Meets ts absent (of as_type rest) (part v)) type_at (λ g4 h4. h4.0)
      (part p 2) m.1.1.0)) (λ a5. tt)))

  pub pat_prop_RestProperty : (from : ℕ) (r : Range) (p : Value)
      → Meets ts absent (needs_pat_prop l.RestProperty) (part p) → IsThere (pats.rest_property r p)
  unfolding pats.rest_property
  pat_prop_RestProperty from r p m = map_there (pat_at p 0) _ m.0

  pub pat_prop_KeyPattern : (from : ℕ) (r : Range) (p : Value) → Meets ts absent (needs_pat_prop l.KeyPattern) (part p)
      → IsThere (pats.key_pattern ts r p)
  unfolding pats.key_pattern
  pat_prop_KeyPattern from r p m =
      given_there (key_at p 0) _ m.0
      (λ a1. given_there (pat_at p 1) _ m.1.0
      (λ a2. given_there (optional expr_at (group p 2)) _
      (optional_in (λ v. Meets ts absent (of as_expr rest) (part v)) expr_at (λ g3 h3. h3.0) (part p 2)
      m.1.1.0) (λ a4. tt)))

  pub pat_prop_NameProperty : (from : ℕ) (r : Range) (p : Value)
      → Meets ts absent (needs_pat_prop l.NameProperty) (part p) → IsThere (pats.name_property x ts r p)
  unfolding pats.name_property
  pat_prop_NameProperty from r p m =
      given_there (ident_at x ts p 0) _ (map_there (token_at ts p 0) _ m.0)
      (λ a1. given_there (optional expr_at (group p 1)) _
      (optional_in (λ v. Meets ts absent (of as_expr rest) (part v)) expr_at (λ g2 h2. h2.0) (part p 1) m.1.0)
      (λ a3. tt))

  pub key_WordKey : (from : ℕ) (r : Range) (p : Value) → Meets ts absent (needs_key l.WordKey) (part p)
      → IsThere (functions.word_key x ts p)
  unfolding functions.word_key
  key_WordKey from r p m = map_there (ident_at x ts p 0) _ (map_there (token_at ts p 0) _ m.0)

  pub key_StrKey : (from : ℕ) (r : Range) (p : Value) → Meets ts absent (needs_key l.StrKey) (part p)
      → IsThere (functions.str_key x ts p)
  unfolding functions.str_key
  key_StrKey from r p m = map_there (str_at x ts p 0) _ (map_there (token_at ts p 0) _ m.0)

  pub key_NumberKey : (from : ℕ) (r : Range) (p : Value) → Meets ts absent (needs_key l.NumberKey) (part p)
      → IsThere (functions.number_key x ts p)
  unfolding functions.number_key
  key_NumberKey from r p m = map_there (numeric_at x ts p 0) _ (numeric_found x (token_at ts p 0) m.0)

  pub key_ComputedKey : (from : ℕ) (r : Range) (p : Value) → Meets ts absent (needs_key l.ComputedKey) (part p)
      → IsThere (functions.computed_key p)
  unfolding functions.computed_key
  key_ComputedKey from r p m = map_there (expr_at p 0) _ m.0

  pub key_PrivateKey : (from : ℕ) (r : Range) (p : Value) → Meets ts absent (needs_key l.PrivateKey) (part p)
      → IsThere (functions.private_key x ts p)
  unfolding functions.private_key
  key_PrivateKey from r p m = map_there (private_at x ts p 0) _ (private_found x (token_at ts p 0) m.0)

  pub prop_SpreadProperty : (from : ℕ) (r : Range) (p : Value) → Meets ts absent (needs_prop l.SpreadProperty) (part p)
      → IsThere (functions.spread_property r p)
  unfolding functions.spread_property
  prop_SpreadProperty from r p m = map_there (expr_at p 0) _ m.0

  pub prop_AccessorProperty : (from : ℕ) (r : Range) (p : Value)
      → Meets ts absent (needs_prop l.AccessorProperty) (part p) → IsThere (functions.accessor_property ts r p)
  unfolding accessor_kinds functions.accessor_property functions.method_at functions.method_property
  prop_AccessorProperty from r p m =
      given_there (given (kind_at ts p 0) (listed accessor_kinds)) _
      (listed_there accessor_kinds (token_at ts p 0) m.0)
      (λ a1. given_there (key_at p 1) _ m.1.0
      (λ a2. given_there (functions.method_at ts false false p 2) _
      (given_there (params_at p 2) _ m.1.1.0 (λ a3. given_there (stmt_at p 3) _ m.1.1.1.0 (λ a4. tt)))
      (λ a5. tt)))

  pub prop_AsyncProperty : (from : ℕ) (r : Range) (p : Value) → Meets ts absent (needs_prop l.AsyncProperty) (part p)
      → IsThere (functions.method_property ts vMethod.Method true (is_there (group p 0)) r p 1)
  unfolding functions.method_at functions.method_property
  prop_AsyncProperty from r p m =
      given_there (key_at p 1) _ m.1.0
      (λ a1. given_there (functions.method_at ts true (is_there (group p 0)) p 2) _
      (given_there (params_at p 2) _ m.1.1.0 (λ a2. given_there (stmt_at p 3) _ m.1.1.1.0 (λ a3. tt)))
      (λ a4. tt))

  pub prop_GeneratorProperty : (from : ℕ) (r : Range) (p : Value)
      → Meets ts absent (needs_prop l.GeneratorProperty) (part p)
      → IsThere (functions.method_property ts vMethod.Method false true r p 0)
  unfolding functions.method_at functions.method_property
  prop_GeneratorProperty from r p m =
      given_there (key_at p 0) _ m.0
      (λ a1. given_there (functions.method_at ts false true p 1) _
      (given_there (params_at p 1) _ m.1.0 (λ a2. given_there (stmt_at p 2) _ m.1.1.0 (λ a3. tt))) (λ a4. tt))

  pub prop_MethodProperty : (from : ℕ) (r : Range) (p : Value) → Meets ts absent (needs_prop l.MethodProperty) (part p)
      → IsThere (functions.method_property ts vMethod.Method false false r p 0)
  unfolding functions.method_at functions.method_property
  prop_MethodProperty from r p m =
      given_there (key_at p 0) _ m.0
      (λ a1. given_there (functions.method_at ts false false p 1) _
      (given_there (params_at p 1) _ m.1.0 (λ a2. given_there (stmt_at p 2) _ m.1.1.0 (λ a3. tt))) (λ a4. tt))

  pub prop_KeyValue : (from : ℕ) (r : Range) (p : Value) → Meets ts absent (needs_prop l.KeyValue) (part p)
      → IsThere (functions.key_value r p)
  unfolding functions.key_value
  prop_KeyValue from r p m = given_there (key_at p 0) _ m.0 (λ a1. given_there (expr_at p 1) _ m.1.0 (λ a2. tt))

  pub prop_Shorthand : (from : ℕ) (r : Range) (p : Value) → Meets ts absent (needs_prop l.Shorthand) (part p)
      → IsThere (functions.shorthand x ts p)
  unfolding functions.shorthand
  prop_Shorthand from r p m = map_there (ident_at x ts p 0) _ (map_there (token_at ts p 0) _ m.0)

  pub prop_TypedAccessorProperty : (from : ℕ) (r : Range) (p : Value)
      → Meets ts absent (needs_prop l.TypedAccessorProperty) (part p) → IsThere (typed.typed_accessor_property ts r p)
  unfolding accessor_kinds typed.typed_accessor_property typed.typed_method_property
  prop_TypedAccessorProperty from r p m =
      given_there (given (kind_at ts p 0) (listed accessor_kinds)) _
      (listed_there accessor_kinds (token_at ts p 0) m.0)
      (λ a1. given_there (key_at (group p 1) 0) _ m.1.0.0
      (λ a2. given_there (signature_at (group p 1) 1) _ m.1.0.1.0
      (λ a3. given_there (stmt_at p 2) _ m.1.1.0 (λ a4. tt))))

  pub prop_TypedAsyncProperty : (from : ℕ) (r : Range) (p : Value)
      → Meets ts absent (needs_prop l.TypedAsyncProperty) (part p)
      → IsThere (typed.typed_method_property ts vMethod.Method true (is_there (group p 0)) r p 1)
  unfolding typed.typed_method_property
  prop_TypedAsyncProperty from r p m =
      given_there (key_at (group p 1) 0) _ m.1.0.0
      (λ a1. given_there (signature_at (group p 1) 1) _ m.1.0.1.0
      (λ a2. given_there (stmt_at p 2) _ m.1.1.0 (λ a3. tt)))

  pub prop_TypedGeneratorProperty : (from : ℕ) (r : Range) (p : Value)
      → Meets ts absent (needs_prop l.TypedGeneratorProperty) (part p)
      → IsThere (typed.typed_method_property ts vMethod.Method false true r p 0)
  unfolding typed.typed_method_property
  prop_TypedGeneratorProperty from r p m =
      given_there (key_at (group p 0) 0) _ m.0.0
      (λ a1. given_there (signature_at (group p 0) 1) _ m.0.1.0
      (λ a2. given_there (stmt_at p 1) _ m.1.0 (λ a3. tt)))

  pub prop_TypedMethodProperty : (from : ℕ) (r : Range) (p : Value)
      → Meets ts absent (needs_prop l.TypedMethodProperty) (part p)
      → IsThere (typed.typed_method_property ts vMethod.Method false false r p 0)
  unfolding typed.typed_method_property
  prop_TypedMethodProperty from r p m =
      given_there (key_at (group p 0) 0) _ m.0.0
      (λ a1. given_there (signature_at (group p 0) 1) _ m.0.1.0
      (λ a2. given_there (stmt_at p 1) _ m.1.0 (λ a3. tt)))

  pub member_EmptyMember : (from : ℕ) (r : Range) (p : Value) → Meets ts absent (needs_member l.EmptyMember) (part p)
      → IsThere (Some (vMember.Empty r))
  member_EmptyMember from r p m = tt

  pub member_StaticBlock : (from : ℕ) (r : Range) (p : Value) → Meets ts absent (needs_member l.StaticBlock) (part p)
      → IsThere (classes.static_block r p)
  unfolding classes.static_block
  member_StaticBlock from r p m = map_there (block_at p 0) _ m.0

  pub member_AccessorMember : (from : ℕ) (r : Range) (p : Value)
      → Meets ts absent (needs_member l.AccessorMember) (part p) → IsThere (classes.accessor_member ts r p)
  unfolding accessor_kinds classes.accessor_member classes.method_member functions.method_at
  member_AccessorMember from r p m =
      given_there (given (kind_at ts p 1) (listed accessor_kinds)) _
      (listed_there accessor_kinds (token_at ts p 1) m.1.0)
      (λ a1. given_there (key_at p 2) _ m.1.1.0
      (λ a2. given_there (functions.method_at ts false false p 3) _
      (given_there (params_at p 3) _ m.1.1.1.0
      (λ a3. given_there (stmt_at p 4) _ m.1.1.1.1.0 (λ a4. tt))) (λ a5. tt)))

  pub member_AsyncMember : (from : ℕ) (r : Range) (p : Value) → Meets ts absent (needs_member l.AsyncMember) (part p)
      → IsThere (classes.method_member ts vMethod.Method true (is_there (group p 1)) r p 2)
  unfolding classes.method_member functions.method_at
  member_AsyncMember from r p m =
      given_there (key_at p 2) _ m.1.1.0
      (λ a1. given_there (functions.method_at ts true (is_there (group p 1)) p 3) _
      (given_there (params_at p 3) _ m.1.1.1.0 (λ a2. given_there (stmt_at p 4) _ m.1.1.1.1.0 (λ a3. tt)))
      (λ a4. tt))

  pub member_GeneratorMember : (from : ℕ) (r : Range) (p : Value)
      → Meets ts absent (needs_member l.GeneratorMember) (part p)
      → IsThere (classes.method_member ts vMethod.Method false true r p 1)
  unfolding classes.method_member functions.method_at
  member_GeneratorMember from r p m =
      given_there (key_at p 1) _ m.1.0
      (λ a1. given_there (functions.method_at ts false true p 2) _
      (given_there (params_at p 2) _ m.1.1.0 (λ a2. given_there (stmt_at p 3) _ m.1.1.1.0 (λ a3. tt)))
      (λ a4. tt))

  pub member_MethodMember : (from : ℕ) (r : Range) (p : Value) → Meets ts absent (needs_member l.MethodMember) (part p)
      → IsThere (classes.method_member ts vMethod.Method false false r p 1)
  unfolding classes.method_member functions.method_at
  member_MethodMember from r p m =
      given_there (key_at p 1) _ m.1.0
      (λ a1. given_there (functions.method_at ts false false p 2) _
      (given_there (params_at p 2) _ m.1.1.0 (λ a2. given_there (stmt_at p 3) _ m.1.1.1.0 (λ a3. tt)))
      (λ a4. tt))

  pub member_FieldMember : (from : ℕ) (r : Range) (p : Value) → Meets ts absent (needs_member l.FieldMember) (part p)
      → IsThere (classes.field_member false r p)
  unfolding classes.field_member
  member_FieldMember from r p m =
      given_there (key_at p 1) _ m.1.0
      (λ a1. given_there (optional expr_at (group p 2)) _
      (optional_in (λ v. Meets ts absent (of as_expr rest) (part v)) expr_at (λ g2 h2. h2.0) (part p 2)
      m.1.1.0) (λ a3. tt))

  pub member_AccessorField : (from : ℕ) (r : Range) (p : Value)
      → Meets ts absent (needs_member l.AccessorField) (part p) → IsThere (classes.field_member true r p)
  unfolding classes.field_member
  member_AccessorField from r p m =
      given_there (key_at p 1) _ m.1.0
      (λ a1. given_there (optional expr_at (group p 2)) _
      (optional_in (λ v. Meets ts absent (of as_expr rest) (part v)) expr_at (λ g2 h2. h2.0) (part p 2)
      m.1.1.0) (λ a3. tt))

  pub member_TypedAccessorMember : (from : ℕ) (r : Range) (p : Value)
      → Meets ts absent (needs_member l.TypedAccessorMember) (part p) → IsThere (typed.typed_accessor_member ts r p)
  unfolding accessor_kinds typed.typed_accessor_member typed.typed_method_member
  member_TypedAccessorMember from r p m =
      given_there (given (kind_at ts p 1) (listed accessor_kinds)) _
      (listed_there accessor_kinds (token_at ts p 1) m.1.0)
      (λ a1. given_there (parts.modifiers_in ts functions.plain (group p 0)) _
      (modifiers_found x ts functions.plain (part p 0) m.0)
      (λ a2. given_there (key_at (group p 2) 0) _ m.1.1.0.0
      (λ a3. given_there (signature_at (group p 2) 2) _ m.1.1.0.1.1.0
      (λ a4. given_there (parts.body_in (group p 3)) _
      (stmt_body_found x ts (group p 3) m.1.1.1.0) (λ a5. tt)))))

  pub member_TypedAsyncMember : (from : ℕ) (r : Range) (p : Value)
      → Meets ts absent (needs_member l.TypedAsyncMember) (part p)
      → IsThere (typed.typed_method_member ts vMethod.Method true (is_there (group p 1)) r p 2)
  unfolding typed.typed_method_member
  member_TypedAsyncMember from r p m =
      given_there (parts.modifiers_in ts functions.plain (group p 0)) _
      (modifiers_found x ts functions.plain (part p 0) m.0)
      (λ a1. given_there (key_at (group p 2) 0) _ m.1.1.0.0
      (λ a2. given_there (signature_at (group p 2) 2) _ m.1.1.0.1.1.0
      (λ a3. given_there (parts.body_in (group p 3)) _ (stmt_body_found x ts (group p 3) m.1.1.1.0)
      (λ a4. tt))))

  pub member_TypedGeneratorMember : (from : ℕ) (r : Range) (p : Value)
      → Meets ts absent (needs_member l.TypedGeneratorMember) (part p)
      → IsThere (typed.typed_method_member ts vMethod.Method false true r p 1)
  unfolding typed.typed_method_member
  member_TypedGeneratorMember from r p m =
      given_there (parts.modifiers_in ts functions.plain (group p 0)) _
      (modifiers_found x ts functions.plain (part p 0) m.0)
      (λ a1. given_there (key_at (group p 1) 0) _ m.1.0.0
      (λ a2. given_there (signature_at (group p 1) 2) _ m.1.0.1.1.0
      (λ a3. given_there (parts.body_in (group p 2)) _ (stmt_body_found x ts (group p 2) m.1.1.0)
      (λ a4. tt))))

  pub member_TypedMethodMember : (from : ℕ) (r : Range) (p : Value)
      → Meets ts absent (needs_member l.TypedMethodMember) (part p)
      → IsThere (typed.typed_method_member ts vMethod.Method false false r p 1)
  unfolding typed.typed_method_member
  member_TypedMethodMember from r p m =
      given_there (parts.modifiers_in ts functions.plain (group p 0)) _
      (modifiers_found x ts functions.plain (part p 0) m.0)
      (λ a1. given_there (key_at (group p 1) 0) _ m.1.0.0
      (λ a2. given_there (signature_at (group p 1) 2) _ m.1.0.1.1.0
      (λ a3. given_there (parts.body_in (group p 2)) _ (stmt_body_found x ts (group p 2) m.1.1.0)
      (λ a4. tt))))

  pub member_TypedFieldMember : (from : ℕ) (r : Range) (p : Value)
      → Meets ts absent (needs_member l.TypedFieldMember) (part p) → IsThere (typed.typed_field ts false r p)
  unfolding typed.typed_field
  member_TypedFieldMember from r p m =
      given_there (parts.modifiers_in ts functions.plain (group p 0)) _
      (modifiers_found x ts functions.plain (part p 0) m.0)
      (λ a1. given_there (key_at p 1) _ m.1.0
      (λ a2. given_there (parts.annotation_at p 3) _
      (map_there (optional type_at (group p 3)) _
      (optional_in (λ v. Meets ts absent (of as_type rest) (part v)) type_at (λ g3 h3. h3.0)
      (part p 3) m.1.1.1.0))
      (λ a4. given_there (optional expr_at (group p 4)) _
      (optional_in (λ v. Meets ts absent (of as_expr rest) (part v)) expr_at
      (λ g5 h5. h5.0) (part p 4) m.1.1.1.1.0) (λ a6. tt))))

  pub member_TypedAccessorField : (from : ℕ) (r : Range) (p : Value)
      → Meets ts absent (needs_member l.TypedAccessorField) (part p) → IsThere (typed.typed_field ts true r p)
  unfolding typed.typed_field
  member_TypedAccessorField from r p m =
      given_there (parts.modifiers_in ts functions.plain (group p 0)) _
      (modifiers_found x ts functions.plain (part p 0) m.0)
      (λ a1. given_there (key_at p 1) _ m.1.0
      (λ a2. given_there (parts.annotation_at p 3) _
      (map_there (optional type_at (group p 3)) _
      (optional_in (λ v. Meets ts absent (of as_type rest) (part v)) type_at (λ g3 h3. h3.0)
      (part p 3) m.1.1.1.0))
      (λ a4. given_there (optional expr_at (group p 4)) _
      (optional_in (λ v. Meets ts absent (of as_expr rest) (part v)) expr_at
      (λ g5 h5. h5.0) (part p 4) m.1.1.1.1.0) (λ a6. tt))))

  pub member_IndexMember : (from : ℕ) (r : Range) (p : Value) → Meets ts absent (needs_member l.IndexMember) (part p)
      → IsThere (typed.index_member x ts r p)
  unfolding typed.index_member
  member_IndexMember from r p m =
      given_there (parts.modifiers_in ts functions.plain (group p 0)) _
      (modifiers_found x ts functions.plain (part p 0) m.0)
      (λ a1. given_there (ident_at x ts p 1) _ (map_there (token_at ts p 1) _ m.1.0)
      (λ a2. given_there (option_map vPart.TypeAnn (type_at p 2)) _ (map_there (type_at p 2) _ m.1.1.0)
      (λ a3. given_there (parts.annotation_at p 3) _
      (map_there (optional type_at (group p 3)) _
      (optional_in (λ v. Meets ts absent (of as_type rest) (part v)) type_at (λ g4 h4. h4.0)
      (part p 3) m.1.1.1.0)) (λ a5. tt))))
