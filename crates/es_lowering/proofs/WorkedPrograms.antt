-- Programs lowered: the typed tree of a text, its tokens and their plain tree, by computing it from what its parts are
-- (Equations.antt). What is expected was made from
-- the trees that another parser gives for these texts. A line end is written ⏎.
use Rattle.std.specs.Prelude.{ℕ, Bool, true, false, List, [], ◌∷◌, map, Option, Some, None, codes}
use Rattle.std.proofs.Common.{◌≡◌, refl}
use Rattle.base.specs.declared.range.Range.{Range}
use Rattle.es_token.specs.declared.token.Token.{Token}
use Rattle.es_token.specs.declared.token.TokenKind.{TokenKind}
use Rattle.es_token.specs.declared.token.TokenKind.TheVariants as k
use Rattle.es_ast.specs.declared.ts.leaf.Ident.{Ident}
use Rattle.es_ast.specs.declared.ts.leaf.Str.{Str}
use Rattle.es_ast.specs.declared.ts.leaf.TplElement.{TplElement}
use Rattle.es_ast.specs.declared.ts.leaf.MethodKind.TheVariants as vMethod
use Rattle.es_ast.specs.declared.leaf.Modifiers.{Modifiers}
use Rattle.es_ast.specs.declared.leaf.BinaryOp.TheVariants as vBinary
use Rattle.es_ast.specs.declared.leaf.AssignOp.TheVariants as vAssign
use Rattle.es_ast.specs.declared.leaf.UnaryOp.TheVariants as vUnary
use Rattle.es_ast.specs.declared.leaf.UpdateOp.TheVariants as vUpdate
use Rattle.es_ast.specs.declared.leaf.VarDeclKind.TheVariants as vVariable
use Rattle.es_ast.specs.declared.leaf.ModuleExportName.TheVariants as vName
use Rattle.es_ast.specs.declared.leaf.ImportNames.TheVariants as vNames
use Rattle.es_ast.specs.declared.leaf.ImportClause.TheVariants as vClause
use Rattle.es_ast.specs.declared.leaf.ImportPhase.TheVariants as vPhase
use Rattle.es_ast.specs.declared.ast.Program.{Program}
use Rattle.es_ast.specs.declared.ast.Program.TheVariants as vProgram
use Rattle.es_ast.specs.declared.ast.ModuleItem.TheVariants as vItem
use Rattle.es_ast.specs.declared.ast.ModuleDecl.TheVariants as vModuleDecl
use Rattle.es_ast.specs.declared.ast.Decl.TheVariants as vDecl
use Rattle.es_ast.specs.declared.ast.Stmt.{Stmt}
use Rattle.es_ast.specs.declared.ast.Stmt.TheVariants as vStmt
use Rattle.es_ast.specs.declared.ast.Expr.{Expr}
use Rattle.es_ast.specs.declared.ast.Expr.TheVariants as vExpr
use Rattle.es_ast.specs.declared.ast.Pat.{Pat}
use Rattle.es_ast.specs.declared.ast.Pat.TheVariants as vPat
use Rattle.es_ast.specs.declared.ast.ObjectPatProp.TheVariants as vPatProp
use Rattle.es_ast.specs.declared.ast.Prop.TheVariants as vProp
use Rattle.es_ast.specs.declared.ast.ClassMember.{ClassMember}
use Rattle.es_ast.specs.declared.ast.ClassMember.TheVariants as vMember
use Rattle.es_ast.specs.declared.ast.Function.{Function}
use Rattle.es_ast.specs.declared.ast.Class.{Class, roll-Class}
use Rattle.es_ast.specs.declared.ast.Param.{Param}
use Rattle.es_ast.specs.declared.ast.VarDeclarator.{VarDeclarator}
use Rattle.es_ast.specs.declared.ast.SwitchCase.{SwitchCase, roll-SwitchCase}
use Rattle.es_grammar.specs.declared.rows.NodeKind.{NodeKind}
use Rattle.es_grammar.specs.declared.rows.NodeKind.TheVariants as l
use Rattle.es_lowering.specs.Value.{Value, token, node, given, typed}
use Rattle.es_lowering.specs.Lowering.{packed, as_target}
use Rattle.es_lowering.specs.Texts.{str_by}
use Rattle.es_lowering.specs.Texts.{end_before as texts_end_before, span_of as texts_span_of, ident_of as texts_ident_of, private_of as texts_private_of, str_of as texts_str_of, numeric_of as texts_numeric_of, regex_of as texts_regex_of, stop_of as texts_stop_of, piece_of as texts_piece_of, shebang_of as texts_shebang_of, property_of as texts_property_of, name_of as texts_name_of, this_or_name_of as texts_this_or_name_of}
use Rattle.es_lowering.specs.Operators.{unary_ops as operators_unary_ops, update_ops as operators_update_ops, arithmetic_ops as operators_arithmetic_ops, logical_ops as operators_logical_ops, assign_ops as operators_assign_ops, variable_kinds as operators_variable_kinds, accessor_kinds as operators_accessor_kinds, greater_op as operators_greater_op, greater_assign as operators_greater_assign, binary_of as operators_binary_of, assign_of as operators_assign_of}
use Rattle.es_lowering.specs.Expressions.{name as expressions_name, word_of as expressions_word_of, word as expressions_word, number as expressions_number, str as expressions_str, regexp as expressions_regexp, template as expressions_template, template_parts as expressions_template_parts, array_literal as expressions_array_literal, object_literal as expressions_object_literal, parenthesized as expressions_parenthesized, spread as expressions_spread, arguments as expressions_arguments, member_post as expressions_member_post, index_post as expressions_index_post, call_post as expressions_call_post, template_post as expressions_template_post, optional_post as expressions_optional_post, chain as expressions_chain, import_call as expressions_import_call, new_ as expressions_new_, prefix as expressions_prefix, await_ as expressions_await_, update_prefix as expressions_update_prefix, update_postfix as expressions_update_postfix, binary as expressions_binary, private_in as expressions_private_in, conditional as expressions_conditional, assignment as expressions_assignment, pattern_assignment as expressions_pattern_assignment, yield_ as expressions_yield_, sequence as expressions_sequence}
use Rattle.es_lowering.specs.Patterns.{name_pattern as patterns_name_pattern, array_pattern as patterns_array_pattern, object_pattern as patterns_object_pattern, rest_pattern as patterns_rest_pattern, default_pattern as patterns_default_pattern, rest_property as patterns_rest_property, key_pattern as patterns_key_pattern, name_property as patterns_name_property}
use Rattle.es_lowering.specs.Functions.{default_parameter as functions_default_parameter, parameters as functions_parameters, signature as functions_signature, function as functions_function, method_at as functions_method_at, name_arrow as functions_name_arrow, parenthesized_arrow as functions_parenthesized_arrow, word_key as functions_word_key, str_key as functions_str_key, number_key as functions_number_key, computed_key as functions_computed_key, private_key as functions_private_key, spread_property as functions_spread_property, shorthand as functions_shorthand, key_value as functions_key_value, method_property as functions_method_property, accessor_property as functions_accessor_property}
use Rattle.es_lowering.specs.Classes.{class_ as classes_class_, static_block as classes_static_block, method_member as classes_method_member, accessor_member as classes_accessor_member, field_member as classes_field_member}
use Rattle.es_lowering.specs.Statements.{block as statements_block, declarator as statements_declarator, variables as statements_variables, using_ as statements_using_, variable_declaration as statements_variable_declaration, variable_head as statements_variable_head, using_head as statements_using_head, for_ as statements_for_, for_each as statements_for_each, for_await as statements_for_await, while_ as statements_while_, do_ as statements_do_, expression_statement as statements_expression_statement, labelled as statements_labelled, if_ as statements_if_, continue_ as statements_continue_, break_ as statements_break_, return_ as statements_return_, throw_ as statements_throw_, switch_ as statements_switch_, try_ as statements_try_, with_ as statements_with_}
use Rattle.es_lowering.specs.Modules.{attributes as modules_attributes, namespace as modules_namespace, named_imports as modules_named_imports, default_clause as modules_default_clause, default_and_clause as modules_default_and_clause, renamed_import as modules_renamed_import, imported_name as modules_imported_name, bare_import as modules_bare_import, from_import as modules_from_import, phase_import as modules_phase_import, require_import as modules_require_import, entity_import as modules_entity_import, entity as modules_entity, export_all as modules_export_all, export_names as modules_export_names, exported_name as modules_exported_name, export_namespace as modules_export_namespace, export_default_decl as modules_export_default_decl, export_default_expression as modules_export_default_expression, export_declaration as modules_export_declaration, module_ as modules_module_, script as modules_script}
use Rattle.es_lowering.specs.Lowering.{expr_of as lower_expr_of, pat_of as lower_pat_of, variables_of as lower_variables_of, decl_of as lower_decl_of, block_of as lower_block_of, stmt_of as lower_stmt_of, declarator_of as lower_declarator_of, param_of as lower_param_of, head_of as lower_head_of, params_of as lower_params_of, pat_prop_of as lower_pat_prop_of, key_of as lower_key_of, prop_of as lower_prop_of, member_of as lower_member_of, post_of as lower_post_of, args_of as lower_args_of, names_of as lower_names_of, clause_of as lower_clause_of, import_specifier_of as lower_import_specifier_of, export_specifier_of as lower_export_specifier_of, attributes_of as lower_attributes_of, entity_of as lower_entity_of, module_decl_of as lower_module_decl_of, program_of as lower_program_of, build as lowering_build, value_of as lower_value_of}
use Rattle.es_lowering.specs.Functions as functions
use Rattle.es_lowering.specs.Classes as classes
use Rattle.es_lowering.specs.Statements as stmts

-- ---- texts, tokens, plain trees and parts of typed ones, written short
abbrev tok : TokenKind → ℕ → ℕ → Token
tok kind start end =
    record { kind = kind; range = record { start = start; end = end }; line_before = false; partner = None }

-- a tree, by what it is over a text and its tokens
abbrev Shape : Type 0
Shape = List ℕ → List Token → Value

abbrev each : List Shape → List ℕ → List Token → Value
each shapes x ts = packed (map (λ shape. shape x ts) shapes)

abbrev leaf : ℕ → Shape
leaf at = λ x ts. token at

abbrev branch : NodeKind → ℕ → ℕ → List Shape → Shape
branch label from to parts =
    λ x ts. node from to (lowering_build x ts label from (texts_span_of ts from to) (each parts x ts))

abbrev role : NodeKind → Shape → Shape
role label tree = λ x ts. as_target x ts (tree x ts)

abbrev group : List Shape → Shape
group parts = each parts

abbrev sp : ℕ → ℕ → Range
sp start end = record { start = start; end = end }

abbrev id : List ℕ → ℕ → ℕ → Ident
id text start end = record { sym = text; ctxt = 0; optional = false; span = sp start end }

abbrev str : List ℕ → ℕ → ℕ → Str
str literal start end = str_by literal (sp start end)

abbrev piece : List ℕ → ℕ → ℕ → TplElement
piece text start end = record { raw = text; span = sp start end }

abbrev param : Pat → Range → Param
param pat r = functions.param_of r pat

abbrev modifiers : Bool → Bool → Modifiers
modifiers is_static accessor = classes.modified is_static accessor

abbrev function_ : Option Ident → Bool → Bool → List Param → Stmt → Range → Function
function_ name is_async is_generator params body r = functions.function_of is_async is_generator r name params body

abbrev class_ : Option Ident → Option Expr → List ClassMember → Range → Class
class_ name super_class members r = roll-Class (record {
  ident = name;
  is_abstract = false;
  type_params = None;
  super_class = super_class;
  super_type_args = None;
  implements = None;
  body = members;
  span = r;
})

abbrev declarator : Pat → Option Expr → Range → VarDeclarator
declarator pat value r = stmts.declarator_of r value pat

abbrev clause : Option Expr → List Stmt → Range → SwitchCase
clause test cons r = roll-SwitchCase (record { test = test; cons = cons; span = r })

-- the program that is made
unfoldable lowered : List ℕ → List Token → Shape → Option Program
lowered x ts shape = given (typed (shape x ts)) (λ typed. typed.program)

operators :
    -- a = b
    (lowered (codes "a = b") (tok k.Name 0 1 ∷ tok k.Equal 2 3 ∷ tok k.Name 4 5 ∷ [])
    (branch l.Module 0 3
    ((group []) ∷ (group
    ((group ((branch l.ExpressionStatement 0 3
    ((branch l.Assignment 0 3
    ((branch l.Name 0 1 ((leaf 0) ∷ [])) ∷ (group ((leaf 1) ∷ []))
    ∷ (branch l.Name 2 3 ((leaf 2) ∷ [])) ∷ [])) ∷ (group []) ∷ [])) ∷ [])) ∷ [])) ∷ []))
    ≡ Some (vProgram.Module
    (record {
      shebang = None;
      body =
          ((vItem.Stmt (vStmt.Expr
          (vExpr.Assign vAssign.Assign (vPat.Expr (vExpr.Ident (id (codes "a") 0 1)))
          (vExpr.Ident (id (codes "b") 4 5)) (sp 0 5)) (sp 0 5))) ∷ []);
      span =
          (sp 0 5);
    })))
    -- a . b ( c )
    × (lowered (codes "a . b ( c )")
    (tok k.Name 0 1 ∷ tok k.Dot 2 3 ∷ tok k.Name 4 5 ∷ tok k.OpenParen 6 7 ∷ tok k.Name 8 9
    ∷ tok k.CloseParen 10 11 ∷ [])
    (branch l.Module 0 6
    ((group []) ∷ (group
    ((group ((branch l.ExpressionStatement 0 6
    ((branch l.Chain 0 6
    ((branch l.Name 0 1 ((leaf 0) ∷ [])) ∷ (branch l.MemberPost 1 3 ((leaf 2) ∷ []))
    ∷ (group ((group ((branch l.CallPost 3 6
    ((branch l.Arguments 3 6
    ((group ((group ((group []) ∷ (branch l.Name 4 5 ((leaf 4) ∷ []))
    ∷ (group []) ∷ [])) ∷ [])) ∷ [])) ∷ [])) ∷ [])) ∷ [])) ∷ []))
    ∷ (group []) ∷ [])) ∷ [])) ∷ [])) ∷ []))
    ≡ Some (vProgram.Module
    (record {
      shebang = None;
      body =
          ((vItem.Stmt (vStmt.Expr
          (vExpr.Call (vExpr.Member
          (vExpr.Ident (id (codes "a") 0 1)) false false
          (id (codes "b") 4 5) (sp 0 5)) false None
          ((vExpr.Ident (id (codes "c") 8 9))
          ∷ []) (sp 0 11)) (sp 0 11))) ∷ []);
      span = (sp 0 11);
    })))
    -- a + b * c
    × (lowered (codes "a + b * c")
    (tok k.Name 0 1 ∷ tok k.Plus 2 3 ∷ tok k.Name 4 5 ∷ tok k.Star 6 7 ∷ tok k.Name 8 9 ∷ [])
    (branch l.Module 0 5
    ((group []) ∷ (group
    ((group ((branch l.ExpressionStatement 0 5
    ((branch l.Binary 0 5
    ((branch l.Name 0 1 ((leaf 0) ∷ [])) ∷ (leaf 1)
    ∷ (branch l.Binary 2 5
    ((branch l.Name 2 3 ((leaf 2) ∷ [])) ∷ (leaf 3)
    ∷ (branch l.Name 4 5 ((leaf 4) ∷ [])) ∷ [])) ∷ [])) ∷ (group []) ∷ [])) ∷ []))
    ∷ [])) ∷ [])) ≡ Some
    (vProgram.Module (record {
      shebang = None;
      body =
          ((vItem.Stmt (vStmt.Expr
          (vExpr.Bin vBinary.Add (vExpr.Ident (id (codes "a") 0 1))
          (vExpr.Bin vBinary.Mul
          (vExpr.Ident (id (codes "b") 4 5))
          (vExpr.Ident (id (codes "c") 8 9)) (sp 4 9))
          (sp 0 9)) (sp 0 9))) ∷ []);
      span = (sp 0 9);
    })))
    -- a - b - c
    × (lowered (codes "a - b - c")
    (tok k.Name 0 1 ∷ tok k.Minus 2 3 ∷ tok k.Name 4 5 ∷ tok k.Minus 6 7 ∷ tok k.Name 8 9 ∷ [])
    (branch l.Module 0 5
    ((group []) ∷ (group
    ((group ((branch l.ExpressionStatement 0 5
    ((branch l.Binary 0 5
    ((branch l.Binary 0 3
    ((branch l.Name 0 1 ((leaf 0) ∷ [])) ∷ (leaf 1) ∷ (branch l.Name 2 3 ((leaf 2) ∷ []))
    ∷ [])) ∷ (leaf 3) ∷ (branch l.Name 4 5 ((leaf 4) ∷ [])) ∷ [])) ∷ (group []) ∷ []))
    ∷ [])) ∷ [])) ∷ []))
    ≡ Some (vProgram.Module
    (record {
      shebang = None;
      body =
          ((vItem.Stmt (vStmt.Expr
          (vExpr.Bin vBinary.Sub
          (vExpr.Bin vBinary.Sub (vExpr.Ident (id (codes "a") 0 1))
          (vExpr.Ident (id (codes "b") 4 5)) (sp 0 5))
          (vExpr.Ident (id (codes "c") 8 9)) (sp 0 9))
          (sp 0 9))) ∷ []);
      span = (sp 0 9);
    })))
    -- a ** b ** c
    × (lowered (codes "a ** b ** c")
    (tok k.Name 0 1 ∷ tok k.StarStar 2 4 ∷ tok k.Name 5 6 ∷ tok k.StarStar 7 9 ∷ tok k.Name 10 11 ∷ [])
    (branch l.Module 0 5
    ((group []) ∷ (group
    ((group ((branch l.ExpressionStatement 0 5
    ((branch l.Binary 0 5
    ((branch l.Name 0 1 ((leaf 0) ∷ [])) ∷ (leaf 1)
    ∷ (branch l.Binary 2 5
    ((branch l.Name 2 3 ((leaf 2) ∷ [])) ∷ (leaf 3)
    ∷ (branch l.Name 4 5 ((leaf 4) ∷ [])) ∷ [])) ∷ [])) ∷ (group []) ∷ [])) ∷ []))
    ∷ [])) ∷ [])) ≡ Some
    (vProgram.Module (record {
      shebang = None;
      body =
          ((vItem.Stmt (vStmt.Expr
          (vExpr.Bin vBinary.Exp (vExpr.Ident (id (codes "a") 0 1))
          (vExpr.Bin vBinary.Exp
          (vExpr.Ident (id (codes "b") 5 6))
          (vExpr.Ident (id (codes "c") 10 11)) (sp 5 11))
          (sp 0 11)) (sp 0 11))) ∷ []);
      span =
          (sp 0 11);
    })))
    -- - a . b
    × (lowered (codes "- a . b") (tok k.Minus 0 1 ∷ tok k.Name 2 3 ∷ tok k.Dot 4 5 ∷ tok k.Name 6 7 ∷ [])
    (branch l.Module 0 4
    ((group []) ∷ (group
    ((group ((branch l.ExpressionStatement 0 4
    ((branch l.UnaryExpression 0 4
    ((leaf 0) ∷ (branch l.Chain 1 4
    ((branch l.Name 1 2 ((leaf 1) ∷ [])) ∷ (branch l.MemberPost 2 4 ((leaf 3) ∷ []))
    ∷ (group []) ∷ [])) ∷ [])) ∷ (group []) ∷ [])) ∷ [])) ∷ [])) ∷ []))
    ≡ Some (vProgram.Module
    (record {
      shebang = None;
      body =
          ((vItem.Stmt (vStmt.Expr
          (vExpr.Unary vUnary.Minus
          (vExpr.Member (vExpr.Ident (id (codes "a") 2 3)) false false
          (id (codes "b") 6 7) (sp 2 7)) (sp 0 7)) (sp 0 7))) ∷ []);
      span = (sp 0 7);
    })))
    -- a ++
    × (lowered (codes "a ++") (tok k.Name 0 1 ∷ tok k.PlusPlus 2 4 ∷ [])
    (branch l.Module 0 2
    ((group []) ∷ (group
    ((group ((branch l.ExpressionStatement 0 2
    ((branch l.UpdatePostfix 0 2 ((branch l.Name 0 1 ((leaf 0) ∷ [])) ∷ (leaf 1) ∷ [])) ∷ (group [])
    ∷ [])) ∷ [])) ∷ [])) ∷ []))
    ≡ Some (vProgram.Module
    (record {
      shebang = None;
      body =
          ((vItem.Stmt (vStmt.Expr
          (vExpr.Update vUpdate.PlusPlus false (vExpr.Ident (id (codes "a") 0 1))
          (sp 0 4)) (sp 0 4))) ∷ []);
      span = (sp 0 4);
    })))
    -- a >> b > c
    × (lowered (codes "a >> b > c")
    (tok k.Name 0 1 ∷ tok k.Greater 2 3 ∷ tok k.Greater 3 4 ∷ tok k.Name 5 6 ∷ tok k.Greater 7 8 ∷ tok k.Name 9 10
    ∷ []) (branch l.Module 0 6
    ((group []) ∷ (group
    ((group ((branch l.ExpressionStatement 0 6
    ((branch l.Binary 0 6
    ((branch l.Binary 0 4
    ((branch l.Name 0 1 ((leaf 0) ∷ [])) ∷ (group ((leaf 1) ∷ (leaf 2) ∷ (group []) ∷ []))
    ∷ (branch l.Name 3 4 ((leaf 3) ∷ [])) ∷ [])) ∷ (group ((leaf 4) ∷ (group []) ∷ []))
    ∷ (branch l.Name 5 6 ((leaf 5) ∷ [])) ∷ [])) ∷ (group []) ∷ [])) ∷ [])) ∷ []))
    ∷ [])) ≡ Some (vProgram.Module
    (record {
      shebang = None;
      body =
          ((vItem.Stmt (vStmt.Expr
          (vExpr.Bin vBinary.Gt
          (vExpr.Bin vBinary.RShift
          (vExpr.Ident (id (codes "a") 0 1))
          (vExpr.Ident (id (codes "b") 5 6)) (sp 0 6))
          (vExpr.Ident (id (codes "c") 9 10)) (sp 0 10))
          (sp 0 10))) ∷ []);
      span = (sp 0 10);
    })))
    -- a >>>= b
    × (lowered (codes "a >>>= b")
    (tok k.Name 0 1 ∷ tok k.Greater 2 3 ∷ tok k.Greater 3 4 ∷ tok k.Greater 4 5 ∷ tok k.Equal 5 6 ∷ tok k.Name 7 8
    ∷ []) (branch l.Module 0 6
    ((group []) ∷ (group
    ((group ((branch l.ExpressionStatement 0 6
    ((branch l.Assignment 0 6
    ((branch l.Name 0 1 ((leaf 0) ∷ []))
    ∷ (group ((leaf 1) ∷ (leaf 2) ∷ (group ((leaf 3) ∷ [])) ∷ (leaf 4) ∷ []))
    ∷ (branch l.Name 5 6 ((leaf 5) ∷ [])) ∷ [])) ∷ (group []) ∷ [])) ∷ [])) ∷ []))
    ∷ [])) ≡ Some (vProgram.Module
    (record {
      shebang = None;
      body =
          ((vItem.Stmt (vStmt.Expr
          (vExpr.Assign vAssign.ZeroFillRShiftAssign
          (vPat.Expr (vExpr.Ident (id (codes "a") 0 1)))
          (vExpr.Ident (id (codes "b") 7 8)) (sp 0 8)) (sp 0 8)))
          ∷ []);
      span = (sp 0 8);
    })))
    -- a || b && c
    × (lowered (codes "a || b && c")
    (tok k.Name 0 1 ∷ tok k.BarBar 2 4 ∷ tok k.Name 5 6 ∷ tok k.AmpersandAmpersand 7 9 ∷ tok k.Name 10 11 ∷ [])
    (branch l.Module 0 5
    ((group []) ∷ (group
    ((group ((branch l.ExpressionStatement 0 5
    ((branch l.Binary 0 5
    ((branch l.Name 0 1 ((leaf 0) ∷ [])) ∷ (leaf 1)
    ∷ (branch l.Binary 2 5
    ((branch l.Name 2 3 ((leaf 2) ∷ [])) ∷ (leaf 3)
    ∷ (branch l.Name 4 5 ((leaf 4) ∷ [])) ∷ [])) ∷ [])) ∷ (group []) ∷ [])) ∷ []))
    ∷ [])) ∷ [])) ≡ Some
    (vProgram.Module (record {
      shebang = None;
      body =
          ((vItem.Stmt (vStmt.Expr
          (vExpr.Bin vBinary.LogicalOr
          (vExpr.Ident (id (codes "a") 0 1))
          (vExpr.Bin vBinary.LogicalAnd
          (vExpr.Ident (id (codes "b") 5 6))
          (vExpr.Ident (id (codes "c") 10 11))
          (sp 5 11)) (sp 0 11)) (sp 0 11)))
          ∷ []);
      span = (sp 0 11);
    })))
    -- a ?? b
    × (lowered (codes "a ?? b") (tok k.Name 0 1 ∷ tok k.QuestionQuestion 2 4 ∷ tok k.Name 5 6 ∷ [])
    (branch l.Module 0 3
    ((group []) ∷ (group
    ((group ((branch l.ExpressionStatement 0 3
    ((branch l.Binary 0 3
    ((branch l.Name 0 1 ((leaf 0) ∷ [])) ∷ (leaf 1) ∷ (branch l.Name 2 3 ((leaf 2) ∷ [])) ∷ []))
    ∷ (group []) ∷ [])) ∷ [])) ∷ [])) ∷ []))
    ≡ Some (vProgram.Module
    (record {
      shebang = None;
      body =
          ((vItem.Stmt (vStmt.Expr
          (vExpr.Bin vBinary.NullishCoalescing (vExpr.Ident (id (codes "a") 0 1))
          (vExpr.Ident (id (codes "b") 5 6)) (sp 0 6)) (sp 0 6))) ∷ []);
      span =
          (sp 0 6);
    })))
    -- a ? b : c
    × (lowered (codes "a ? b : c")
    (tok k.Name 0 1 ∷ tok k.Question 2 3 ∷ tok k.Name 4 5 ∷ tok k.Colon 6 7 ∷ tok k.Name 8 9 ∷ [])
    (branch l.Module 0 5
    ((group []) ∷ (group
    ((group ((branch l.ExpressionStatement 0 5
    ((branch l.Conditional 0 5
    ((branch l.Name 0 1 ((leaf 0) ∷ [])) ∷ (branch l.Name 2 3 ((leaf 2) ∷ []))
    ∷ (branch l.Name 4 5 ((leaf 4) ∷ [])) ∷ [])) ∷ (group []) ∷ [])) ∷ [])) ∷ [])) ∷ []))
    ≡ Some (vProgram.Module
    (record {
      shebang = None;
      body =
          ((vItem.Stmt (vStmt.Expr
          (vExpr.Cond (vExpr.Ident (id (codes "a") 0 1))
          (vExpr.Ident (id (codes "b") 4 5))
          (vExpr.Ident (id (codes "c") 8 9)) (sp 0 9)) (sp 0 9))) ∷ []);
      span = (sp 0 9);
    })))
    -- ( a ) => b
    × (lowered (codes "( a ) => b")
    (tok k.OpenParen 0 1 ∷ tok k.Name 2 3 ∷ tok k.CloseParen 4 5 ∷ tok k.Arrow 6 8 ∷ tok k.Name 9 10 ∷ [])
    (branch l.Module 0 5
    ((group []) ∷ (group
    ((group ((branch l.ExpressionStatement 0 5
    ((branch l.ParenthesizedArrow 0 5
    ((branch l.Parameters 1 2
    ((group ((group ((branch l.NamePattern 1 2 ((leaf 1) ∷ [])) ∷ (group []) ∷ [])) ∷ []))
    ∷ (group []) ∷ [])) ∷ (group ((branch l.Name 4 5 ((leaf 4) ∷ [])) ∷ [])) ∷ []))
    ∷ (group []) ∷ [])) ∷ [])) ∷ [])) ∷ []))
    ≡ Some (vProgram.Module
    (record {
      shebang = None;
      body =
          ((vItem.Stmt (vStmt.Expr
          (vExpr.Arrow (function_ None false false
          ((param (vPat.Ident (id (codes "a") 2 3) None (sp 2 3))
          (sp 2 3)) ∷ []) (vStmt.Expr
          (vExpr.Ident (id (codes "b") 9 10)) (sp 9 10))
          (sp 0 10))) (sp 0 10))) ∷ []);
      span = (sp 0 10);
    })))
    -- async a => { }
    × (lowered (codes "async a => { }")
    (tok k.AsyncWord 0 5 ∷ tok k.Name 6 7 ∷ tok k.Arrow 8 10 ∷ tok k.OpenBrace 11 12 ∷ tok k.CloseBrace 13 14 ∷ [])
    (branch l.Module 0 5
    ((group []) ∷ (group
    ((group ((branch l.ExpressionStatement 0 5
    ((branch l.AsyncNameArrow 0 5
    ((leaf 1) ∷ (group ((branch l.Block 3 5 ((group []) ∷ [])) ∷ [])) ∷ [])) ∷ (group [])
    ∷ [])) ∷ [])) ∷ [])) ∷ []))
    ≡ Some (vProgram.Module
    (record {
      shebang = None;
      body =
          ((vItem.Stmt (vStmt.Expr
          (vExpr.Arrow (function_ None true false
          ((param (vPat.Ident (id (codes "a") 6 7) None (sp 6 7)) (sp 6 7))
          ∷ []) (vStmt.Block [] (sp 11 14)) (sp 0 14))) (sp 0 14)))
          ∷ []);
      span = (sp 0 14);
    })))
    -- a ? ( b ) : c => d
    × (lowered (codes "a ? ( b ) : c => d")
    (tok k.Name 0 1 ∷ tok k.Question 2 3 ∷ tok k.OpenParen 4 5 ∷ tok k.Name 6 7 ∷ tok k.CloseParen 8 9
    ∷ tok k.Colon 10 11 ∷ tok k.Name 12 13 ∷ tok k.Arrow 14 16 ∷ tok k.Name 17 18 ∷ [])
    (branch l.Module 0 9
    ((group []) ∷ (group
    ((group ((branch l.ExpressionStatement 0 9
    ((branch l.Conditional 0 9
    ((branch l.Name 0 1 ((leaf 0) ∷ []))
    ∷ (branch l.Parenthesized 2 5 ((branch l.Name 3 4 ((leaf 3) ∷ [])) ∷ []))
    ∷ (branch l.NameArrow 6 9
    ((leaf 6) ∷ (group ((branch l.Name 8 9 ((leaf 8) ∷ [])) ∷ [])) ∷ []))
    ∷ [])) ∷ (group []) ∷ [])) ∷ [])) ∷ [])) ∷ []))
    ≡ Some (vProgram.Module
    (record {
      shebang = None;
      body =
          ((vItem.Stmt (vStmt.Expr
          (vExpr.Cond (vExpr.Ident (id (codes "a") 0 1))
          (vExpr.Paren (vExpr.Ident (id (codes "b") 6 7))
          (sp 4 9)) (vExpr.Arrow
          (function_ None false false
          ((param (vPat.Ident (id (codes "c") 12
          13) None (sp 12 13)) (sp 12 13))
          ∷ []) (vStmt.Expr (vExpr.Ident
          (id (codes "d") 17 18))
          (sp 17 18)) (sp 12 18))) (sp 0 18)) (sp 0 18))) ∷ []);
      span = (sp 0 18);
    })))
unfolding lowered texts_end_before texts_span_of texts_ident_of texts_private_of texts_str_of texts_numeric_of
    texts_regex_of texts_stop_of texts_piece_of texts_shebang_of texts_property_of texts_name_of texts_this_or_name_of
    operators_unary_ops operators_update_ops operators_arithmetic_ops operators_logical_ops operators_assign_ops
    operators_variable_kinds operators_accessor_kinds operators_greater_op operators_greater_assign
    operators_binary_of operators_assign_of expressions_name expressions_word_of expressions_word
    expressions_number expressions_str expressions_regexp expressions_template
    expressions_template_parts expressions_array_literal expressions_object_literal
    expressions_parenthesized expressions_spread expressions_arguments expressions_member_post
    expressions_index_post expressions_call_post expressions_template_post
    expressions_optional_post expressions_chain expressions_import_call
    expressions_new_ expressions_prefix expressions_await_
    expressions_update_prefix expressions_update_postfix expressions_binary
    expressions_private_in expressions_conditional expressions_assignment
    expressions_pattern_assignment expressions_yield_
    expressions_sequence patterns_name_pattern
    patterns_array_pattern patterns_object_pattern
    patterns_rest_pattern patterns_default_pattern
    patterns_rest_property patterns_key_pattern
    patterns_name_property
    functions_default_parameter
    functions_parameters
    functions_signature functions_function functions_method_at functions_name_arrow functions_parenthesized_arrow functions_word_key functions_str_key functions_number_key functions_computed_key functions_private_key functions_spread_property functions_shorthand functions_key_value functions_method_property functions_accessor_property classes_class_ classes_static_block classes_method_member classes_accessor_member classes_field_member statements_block statements_declarator statements_variables statements_using_ statements_variable_declaration statements_variable_head statements_using_head statements_for_ statements_for_each statements_for_await statements_while_ statements_do_ statements_expression_statement statements_labelled statements_if_ statements_continue_ statements_break_ statements_return_ statements_throw_ statements_switch_ statements_try_ statements_with_ modules_attributes modules_namespace modules_named_imports modules_default_clause modules_default_and_clause modules_renamed_import modules_imported_name modules_bare_import modules_from_import modules_phase_import modules_require_import modules_entity_import modules_entity modules_export_all modules_export_names modules_exported_name modules_export_namespace modules_export_default_decl modules_export_default_expression modules_export_declaration modules_module_ modules_script lower_expr_of lower_pat_of lower_variables_of lower_decl_of lower_block_of lower_stmt_of lower_declarator_of lower_param_of lower_head_of lower_params_of lower_pat_prop_of lower_key_of lower_prop_of lower_member_of lower_post_of lower_args_of lower_names_of lower_clause_of lower_import_specifier_of lower_export_specifier_of lower_attributes_of lower_entity_of lower_module_decl_of lower_program_of lowering_build lower_value_of
operators = (refl, refl, refl, refl, refl, refl, refl, refl, refl, refl, refl, refl, refl, refl, refl)

operands :
    -- [ a , , ...b ]
    (lowered (codes "[ a , , ...b ]")
    (tok k.OpenBracket 0 1 ∷ tok k.Name 2 3 ∷ tok k.Comma 4 5 ∷ tok k.Comma 6 7 ∷ tok k.Ellipsis 8 11
    ∷ tok k.Name 11 12 ∷ tok k.CloseBracket 13 14 ∷ [])
    (branch l.Module 0 7
    ((group []) ∷ (group
    ((group ((branch l.ExpressionStatement 0 7
    ((branch l.ArrayLiteral 0 7
    ((group ((group ((group ((branch l.Name 1 2 ((leaf 1) ∷ [])) ∷ (group []) ∷ [])) ∷ []))
    ∷ (group ((group []) ∷ []))
    ∷ (group ((group ((branch l.Spread 4 6
    ((branch l.Name 5 6 ((leaf 5) ∷ [])) ∷ [])) ∷ (group []) ∷ [])) ∷ []))
    ∷ [])) ∷ [])) ∷ (group []) ∷ [])) ∷ [])) ∷ [])) ∷ []))
    ≡ Some (vProgram.Module
    (record {
      shebang = None;
      body =
          ((vItem.Stmt (vStmt.Expr
          (vExpr.Array ((vExpr.Ident (id (codes "a") 2 3))
          ∷ (vExpr.Hole (sp 5 5))
          ∷ (vExpr.Spread (vExpr.Ident
          (id (codes "b") 11 12)) (sp 8 12)) ∷ [])
          (sp 0 14)) (sp 0 14))) ∷ []);
      span =
          (sp 0 14);
    })))
    -- [ a , b . c = d ] = e
    × (lowered (codes "[ a , b . c = d ] = e")
    (tok k.OpenBracket 0 1 ∷ tok k.Name 2 3 ∷ tok k.Comma 4 5 ∷ tok k.Name 6 7 ∷ tok k.Dot 8 9 ∷ tok k.Name 10 11
    ∷ tok k.Equal 12 13 ∷ tok k.Name 14 15 ∷ tok k.CloseBracket 16 17 ∷ tok k.Equal 18 19 ∷ tok k.Name 20 21
    ∷ []) (branch l.Module 0 11
    ((group []) ∷ (group
    ((group ((branch l.ExpressionStatement 0 11
    ((branch l.PatternAssignment 0 11
    ((branch l.ArrayPattern 0 9
    ((group ((group ((group
    ((role l.Target (branch l.Name 1 2 ((leaf 1) ∷ []))) ∷ (group []) ∷ [])) ∷ []))
    ∷ (group ((group ((branch l.DefaultPattern 3 8
    ((role l.Target (branch l.Chain 3 6
    ((branch l.Name 3 4 ((leaf 3) ∷ []))
    ∷ (branch l.MemberPost 4 6 ((leaf 5) ∷ [])) ∷ (group [])
    ∷ []))) ∷ (branch l.Name 7 8 ((leaf 7) ∷ [])) ∷ []))
    ∷ (group []) ∷ [])) ∷ [])) ∷ [])) ∷ []))
    ∷ (branch l.Name 10 11 ((leaf 10) ∷ [])) ∷ []))
    ∷ (group []) ∷ [])) ∷ [])) ∷ [])) ∷ []))
    ≡ Some (vProgram.Module
    (record {
      shebang = None;
      body =
          ((vItem.Stmt (vStmt.Expr
          (vExpr.Assign vAssign.Assign
          (vPat.Array ((vPat.Expr
          (vExpr.Ident (id (codes
          "a") 2 3))) ∷ (vPat.Assign (vPat.Expr (vExpr.Member (vExpr.Ident (id (codes "b") 6 7)) false false (id (codes "c") 10 11) (sp 6 11))) (vExpr.Ident (id (codes "d") 14 15)) (sp 6 15)) ∷ []) false None (sp 0 17)) (vExpr.Ident (id (codes "e") 20 21)) (sp 0 21)) (sp 0 21))) ∷ []);
      span = (sp 0 21);
    })))
    -- ( { a , b : c , get d ( ) { } } )
    × (lowered (codes "( { a , b : c , get d ( ) { } } )")
    (tok k.OpenParen 0 1 ∷ tok k.OpenBrace 2 3 ∷ tok k.Name 4 5 ∷ tok k.Comma 6 7 ∷ tok k.Name 8 9
    ∷ tok k.Colon 10 11 ∷ tok k.Name 12 13 ∷ tok k.Comma 14 15 ∷ tok k.GetWord 16 19 ∷ tok k.Name 20 21
    ∷ tok k.OpenParen 22 23 ∷ tok k.CloseParen 24 25 ∷ tok k.OpenBrace 26 27 ∷ tok k.CloseBrace 28 29
    ∷ tok k.CloseBrace 30 31 ∷ tok k.CloseParen 32 33 ∷ [])
    (branch l.Module 0 16
    ((group []) ∷ (group
    ((group ((branch l.ExpressionStatement 0 16
    ((branch l.Parenthesized 0 16
    ((branch l.ObjectLiteral 1 15
    ((group ((group ((branch l.Shorthand 2 3 ((leaf 2) ∷ [])) ∷ (group [])
    ∷ [])) ∷ (group ((branch l.KeyValue 4 7
    ((branch l.WordKey 4 5 ((leaf 4) ∷ []))
    ∷ (branch l.Name 6 7 ((leaf 6) ∷ [])) ∷ [])) ∷ (group [])
    ∷ [])) ∷ (group ((branch l.AccessorProperty 8 14
    ((leaf 8) ∷ (branch l.WordKey 9 10 ((leaf 9) ∷ []))
    ∷ (branch l.Signature 10 12
    ((branch l.Parameters 11 11
    ((group []) ∷ (group []) ∷ [])) ∷ []))
    ∷ (branch l.Block 12 14
    ((group []) ∷ [])) ∷ []))
    ∷ (group []) ∷ [])) ∷ []))
    ∷ [])) ∷ [])) ∷ (group [])
    ∷ [])) ∷ [])) ∷ []))
    ∷ [])) ≡ Some (vProgram.Module (record { shebang = None; body = ((vItem.Stmt (vStmt.Expr (vExpr.Paren (vExpr.Object ((vProp.Shorthand (id (codes "a") 4 5)) ∷ (vProp.KeyValue false (vExpr.Ident (id (codes "b") 8 9)) (vExpr.Ident (id (codes "c") 12 13)) (sp 8 13)) ∷ (vProp.Method vMethod.Getter false (vExpr.Ident (id (codes "d") 20 21)) (function_ None false false [] (vStmt.Block [] (sp 26 29)) (sp 22 29)) (sp 16 29)) ∷ []) (sp 2 31)) (sp 0 33)) (sp 0 33))) ∷ []); span = (sp 0 33) })))
    -- new a . b ( )
    × (lowered (codes "new a . b ( )")
    (tok k.NewWord 0 3 ∷ tok k.Name 4 5 ∷ tok k.Dot 6 7 ∷ tok k.Name 8 9 ∷ tok k.OpenParen 10 11
    ∷ tok k.CloseParen 12 13 ∷ [])
    (branch l.Module 0 6
    ((group []) ∷ (group
    ((group ((branch l.ExpressionStatement 0 6
    ((branch l.New 0 6 ((branch l.Chain 1 4
    ((branch l.Name 1 2 ((leaf 1) ∷ [])) ∷ (branch l.MemberPost 2 4 ((leaf 3) ∷ []))
    ∷ (group []) ∷ [])) ∷ (group ((branch l.Arguments 4 6 ((group []) ∷ [])) ∷ []))
    ∷ [])) ∷ (group []) ∷ [])) ∷ [])) ∷ [])) ∷ []))
    ≡ Some (vProgram.Module
    (record {
      shebang = None;
      body =
          ((vItem.Stmt (vStmt.Expr
          (vExpr.New (vExpr.Member (vExpr.Ident (id (codes "a") 4 5))
          false false (id (codes "b") 8 9) (sp 4 9)) None true []
          (sp 0 13)) (sp 0 13))) ∷ []);
      span = (sp 0 13);
    })))
    -- new a ( ) . b
    × (lowered (codes "new a ( ) . b")
    (tok k.NewWord 0 3 ∷ tok k.Name 4 5 ∷ tok k.OpenParen 6 7 ∷ tok k.CloseParen 8 9 ∷ tok k.Dot 10 11
    ∷ tok k.Name 12 13 ∷ [])
    (branch l.Module 0 6
    ((group []) ∷ (group
    ((group ((branch l.ExpressionStatement 0 6
    ((branch l.Chain 0 6
    ((branch l.New 0 4 ((branch l.Name 1 2 ((leaf 1) ∷ []))
    ∷ (group ((branch l.Arguments 2 4 ((group []) ∷ [])) ∷ [])) ∷ []))
    ∷ (branch l.MemberPost 4 6 ((leaf 5) ∷ [])) ∷ (group []) ∷ [])) ∷ (group [])
    ∷ [])) ∷ [])) ∷ [])) ∷ []))
    ≡ Some (vProgram.Module
    (record {
      shebang = None;
      body =
          ((vItem.Stmt (vStmt.Expr
          (vExpr.Member (vExpr.New (vExpr.Ident (id (codes "a") 4 5))
          None true [] (sp 0 9)) false false
          (id (codes "b") 12 13) (sp 0 13)) (sp 0 13)))
          ∷ []);
      span = (sp 0 13);
    })))
    -- a ?. [ b ]
    × (lowered (codes "a ?. [ b ]")
    (tok k.Name 0 1 ∷ tok k.QuestionDot 2 4 ∷ tok k.OpenBracket 5 6 ∷ tok k.Name 7 8 ∷ tok k.CloseBracket 9 10
    ∷ []) (branch l.Module 0 5
    ((group []) ∷ (group
    ((group ((branch l.ExpressionStatement 0 5
    ((branch l.Chain 0 5
    ((branch l.Name 0 1 ((leaf 0) ∷ []))
    ∷ (branch l.OptionalPost 1 5 ((group ((branch l.Name 3 4 ((leaf 3) ∷ [])) ∷ [])) ∷ []))
    ∷ (group []) ∷ [])) ∷ (group []) ∷ [])) ∷ [])) ∷ [])) ∷ []))
    ≡ Some (vProgram.Module
    (record {
      shebang = None;
      body =
          ((vItem.Stmt (vStmt.Expr
          (vExpr.Index (vExpr.Ident (id (codes "a") 0 1)) true
          (vExpr.Ident (id (codes "b") 7 8)) (sp 0 10)) (sp 0 10)))
          ∷ []);
      span = (sp 0 10);
    })))
    -- #a in b
    × (lowered (codes "#a in b") (tok k.PrivateName 0 2 ∷ tok k.InWord 3 5 ∷ tok k.Name 6 7 ∷ [])
    (branch l.Module 0 3
    ((group []) ∷ (group
    ((group ((branch l.ExpressionStatement 0 3
    ((branch l.PrivateIn 0 3 ((leaf 0) ∷ (branch l.Name 2 3 ((leaf 2) ∷ [])) ∷ [])) ∷ (group []) ∷ []))
    ∷ [])) ∷ [])) ∷ []))
    ≡ Some (vProgram.Module
    (record {
      shebang = None;
      body =
          ((vItem.Stmt (vStmt.Expr
          (vExpr.Bin vBinary.In (vExpr.PrivateName (id (codes "a") 0 2))
          (vExpr.Ident (id (codes "b") 6 7)) (sp 0 7)) (sp 0 7))) ∷ []);
      span =
          (sp 0 7);
    })))
    -- `a`
    × (lowered (codes "`a`") (tok k.TemplateWhole 0 3 ∷ [])
    (branch l.Module 0 1
    ((group []) ∷ (group
    ((group ((branch l.ExpressionStatement 0 1 ((branch l.Template 0 1 ((leaf 0) ∷ [])) ∷ (group []) ∷ []))
    ∷ [])) ∷ [])) ∷ []))
    ≡ Some (vProgram.Module
    (record {
      shebang = None;
      body =
          ((vItem.Stmt (vStmt.Expr (vExpr.Tpl ((piece (codes "a") 1 2) ∷ []) [] (sp 0 3))
          (sp 0 3))) ∷ []);
      span = (sp 0 3);
    })))
    -- `a${ b }c`
    × (lowered (codes "`a${ b }c`") (tok k.TemplateHead 0 4 ∷ tok k.Name 5 6 ∷ tok k.TemplateTail 7 10 ∷ [])
    (branch l.Module 0 3
    ((group []) ∷ (group
    ((group ((branch l.ExpressionStatement 0 3
    ((branch l.TemplateParts 0 3
    ((leaf 0) ∷ (branch l.Name 1 2 ((leaf 1) ∷ [])) ∷ (group []) ∷ (leaf 2) ∷ [])) ∷ (group [])
    ∷ [])) ∷ [])) ∷ [])) ∷ []))
    ≡ Some (vProgram.Module
    (record {
      shebang = None;
      body =
          ((vItem.Stmt (vStmt.Expr
          (vExpr.Tpl ((piece (codes "a") 1 2) ∷ (piece (codes "c") 8 9) ∷ [])
          ((vExpr.Ident (id (codes "b") 5 6)) ∷ []) (sp 0 10)) (sp 0 10))) ∷ []);
      span = (sp 0 10);
    })))
unfolding lowered texts_end_before texts_span_of texts_ident_of texts_private_of texts_str_of texts_numeric_of
    texts_regex_of texts_stop_of texts_piece_of texts_shebang_of texts_property_of texts_name_of texts_this_or_name_of
    operators_unary_ops operators_update_ops operators_arithmetic_ops operators_logical_ops operators_assign_ops
    operators_variable_kinds operators_accessor_kinds operators_greater_op operators_greater_assign
    operators_binary_of operators_assign_of expressions_name expressions_word_of expressions_word
    expressions_number expressions_str expressions_regexp expressions_template
    expressions_template_parts expressions_array_literal expressions_object_literal
    expressions_parenthesized expressions_spread expressions_arguments expressions_member_post
    expressions_index_post expressions_call_post expressions_template_post
    expressions_optional_post expressions_chain expressions_import_call
    expressions_new_ expressions_prefix expressions_await_
    expressions_update_prefix expressions_update_postfix expressions_binary
    expressions_private_in expressions_conditional expressions_assignment
    expressions_pattern_assignment expressions_yield_
    expressions_sequence patterns_name_pattern
    patterns_array_pattern patterns_object_pattern
    patterns_rest_pattern patterns_default_pattern
    patterns_rest_property patterns_key_pattern
    patterns_name_property
    functions_default_parameter
    functions_parameters
    functions_signature functions_function functions_method_at functions_name_arrow functions_parenthesized_arrow functions_word_key functions_str_key functions_number_key functions_computed_key functions_private_key functions_spread_property functions_shorthand functions_key_value functions_method_property functions_accessor_property classes_class_ classes_static_block classes_method_member classes_accessor_member classes_field_member statements_block statements_declarator statements_variables statements_using_ statements_variable_declaration statements_variable_head statements_using_head statements_for_ statements_for_each statements_for_await statements_while_ statements_do_ statements_expression_statement statements_labelled statements_if_ statements_continue_ statements_break_ statements_return_ statements_throw_ statements_switch_ statements_try_ statements_with_ modules_attributes modules_namespace modules_named_imports modules_default_clause modules_default_and_clause modules_renamed_import modules_imported_name modules_bare_import modules_from_import modules_phase_import modules_require_import modules_entity_import modules_entity modules_export_all modules_export_names modules_exported_name modules_export_namespace modules_export_default_decl modules_export_default_expression modules_export_declaration modules_module_ modules_script lower_expr_of lower_pat_of lower_variables_of lower_decl_of lower_block_of lower_stmt_of lower_declarator_of lower_param_of lower_head_of lower_params_of lower_pat_prop_of lower_key_of lower_prop_of lower_member_of lower_post_of lower_args_of lower_names_of lower_clause_of lower_import_specifier_of lower_export_specifier_of lower_attributes_of lower_entity_of lower_module_decl_of lower_program_of lowering_build lower_value_of
operands = (refl, refl, refl, refl, refl, refl, refl, refl, refl)

statements :
    -- a ; b
    (lowered (codes "a ; b") (tok k.Name 0 1 ∷ tok k.Semicolon 2 3 ∷ tok k.Name 4 5 ∷ [])
    (branch l.Module 0 3
    ((group []) ∷ (group
    ((group ((branch l.ExpressionStatement 0 2 ((branch l.Name 0 1 ((leaf 0) ∷ [])) ∷ (group []) ∷ []))
    ∷ [])) ∷ (group ((branch l.ExpressionStatement 2 3
    ((branch l.Name 2 3 ((leaf 2) ∷ [])) ∷ (group []) ∷ [])) ∷ [])) ∷ [])) ∷ []))
    ≡ Some (vProgram.Module
    (record {
      shebang = None;
      body =
          ((vItem.Stmt (vStmt.Expr (vExpr.Ident (id (codes "a") 0 1)) (sp 0 3)))
          ∷ (vItem.Stmt (vStmt.Expr (vExpr.Ident (id (codes "b") 4 5)) (sp 4 5))) ∷ []);
      span = (sp 0 5);
    })))
    -- a⏎ b
    × (lowered (codes "a  b") (tok k.Name 0 1 ∷ tok k.Name 3 4 ∷ [])
    (branch l.Module 0 2
    ((group []) ∷ (group
    ((group ((branch l.ExpressionStatement 0 1 ((branch l.Name 0 1 ((leaf 0) ∷ [])) ∷ (group []) ∷ []))
    ∷ [])) ∷ (group ((branch l.ExpressionStatement 1 2
    ((branch l.Name 1 2 ((leaf 1) ∷ [])) ∷ (group []) ∷ [])) ∷ [])) ∷ [])) ∷ []))
    ≡ Some (vProgram.Module
    (record {
      shebang = None;
      body =
          ((vItem.Stmt (vStmt.Expr (vExpr.Ident (id (codes "a") 0 1)) (sp 0 1)))
          ∷ (vItem.Stmt (vStmt.Expr (vExpr.Ident (id (codes "b") 3 4)) (sp 3 4))) ∷ []);
      span = (sp 0 4);
    })))
    -- a⏎ ++ b
    × (lowered (codes "a  ++ b") (tok k.Name 0 1 ∷ tok k.PlusPlus 3 5 ∷ tok k.Name 6 7 ∷ [])
    (branch l.Module 0 3
    ((group []) ∷ (group
    ((group ((branch l.ExpressionStatement 0 1 ((branch l.Name 0 1 ((leaf 0) ∷ [])) ∷ (group []) ∷ []))
    ∷ [])) ∷ (group ((branch l.ExpressionStatement 1 3
    ((branch l.UpdatePrefix 1 3 ((leaf 1) ∷ (branch l.Name 2 3 ((leaf 2) ∷ [])) ∷ [])) ∷ (group [])
    ∷ [])) ∷ [])) ∷ [])) ∷ []))
    ≡ Some (vProgram.Module
    (record {
      shebang = None;
      body =
          ((vItem.Stmt (vStmt.Expr (vExpr.Ident (id (codes "a") 0 1)) (sp 0 1)))
          ∷ (vItem.Stmt (vStmt.Expr
          (vExpr.Update vUpdate.PlusPlus true (vExpr.Ident (id (codes "b") 6 7))
          (sp 3 7)) (sp 3 7))) ∷ []);
      span = (sp 0 7);
    })))
    -- { }
    × (lowered (codes "{ }") (tok k.OpenBrace 0 1 ∷ tok k.CloseBrace 2 3 ∷ [])
    (branch l.Module 0 2 ((group []) ∷ (group ((group ((branch l.Block 0 2 ((group []) ∷ [])) ∷ [])) ∷ [])) ∷ []))
    ≡ Some (vProgram.Module
    (record { shebang = None; body = ((vItem.Stmt (vStmt.Block [] (sp 0 3))) ∷ []); span = (sp 0 3) })))
    -- a : b
    × (lowered (codes "a : b") (tok k.Name 0 1 ∷ tok k.Colon 2 3 ∷ tok k.Name 4 5 ∷ [])
    (branch l.Module 0 3
    ((group []) ∷ (group
    ((group ((branch l.LabelledStatement 0 3
    ((leaf 0) ∷ (branch l.ExpressionStatement 2 3
    ((branch l.Name 2 3 ((leaf 2) ∷ [])) ∷ (group []) ∷ [])) ∷ [])) ∷ [])) ∷ [])) ∷ []))
    ≡ Some (vProgram.Module
    (record {
      shebang = None;
      body =
          ((vItem.Stmt (vStmt.Labeled (id (codes "a") 0 1)
          (vStmt.Expr (vExpr.Ident (id (codes "b") 4 5)) (sp 4 5)) (sp 0 5))) ∷ []);
      span = (sp 0 5);
    })))
    -- if ( a ) if ( b ) c ; else d
    × (lowered (codes "if ( a ) if ( b ) c ; else d")
    (tok k.IfWord 0 2 ∷ tok k.OpenParen 3 4 ∷ tok k.Name 5 6 ∷ tok k.CloseParen 7 8 ∷ tok k.IfWord 9 11
    ∷ tok k.OpenParen 12 13 ∷ tok k.Name 14 15 ∷ tok k.CloseParen 16 17 ∷ tok k.Name 18 19
    ∷ tok k.Semicolon 20 21 ∷ tok k.ElseWord 22 26 ∷ tok k.Name 27 28 ∷ [])
    (branch l.Module 0 12
    ((group []) ∷ (group
    ((group ((branch l.IfStatement 0 12
    ((branch l.Name 2 3 ((leaf 2) ∷ []))
    ∷ (branch l.IfStatement 4 12
    ((branch l.Name 6 7 ((leaf 6) ∷ []))
    ∷ (branch l.ExpressionStatement 8 10
    ((branch l.Name 8 9 ((leaf 8) ∷ [])) ∷ (group []) ∷ []))
    ∷ (group ((branch l.ExpressionStatement 11 12
    ((branch l.Name 11 12 ((leaf 11) ∷ [])) ∷ (group []) ∷ []))
    ∷ [])) ∷ [])) ∷ (group []) ∷ [])) ∷ [])) ∷ [])) ∷ []))
    ≡ Some (vProgram.Module
    (record {
      shebang = None;
      body =
          ((vItem.Stmt (vStmt.If
          (vExpr.Ident (id (codes "a") 5 6))
          (vStmt.If (vExpr.Ident
          (id (codes "b") 14 15))
          (vStmt.Expr (vExpr.Ident
          (id (codes "c") 18 19))
          (sp 18 21)) (Some (vStmt.Expr (vExpr.Ident (id (codes "d") 27 28)) (sp 27 28))) (sp 9 28)) None (sp 0 28))) ∷ []);
      span = (sp 0 28);
    })))
    -- for ( ; ; ) a
    × (lowered (codes "for ( ; ; ) a")
    (tok k.ForWord 0 3 ∷ tok k.OpenParen 4 5 ∷ tok k.Semicolon 6 7 ∷ tok k.Semicolon 8 9 ∷ tok k.CloseParen 10 11
    ∷ tok k.Name 12 13 ∷ [])
    (branch l.Module 0 6
    ((group []) ∷ (group
    ((group ((branch l.ForStatement 0 6
    ((group []) ∷ (group []) ∷ (group []) ∷ (group []) ∷ (group [])
    ∷ (branch l.ExpressionStatement 5 6
    ((branch l.Name 5 6 ((leaf 5) ∷ [])) ∷ (group []) ∷ [])) ∷ [])) ∷ [])) ∷ []))
    ∷ [])) ≡ Some (vProgram.Module
    (record {
      shebang = None;
      body =
          ((vItem.Stmt (vStmt.For None None None
          (vStmt.Expr (vExpr.Ident (id (codes "a") 12 13)) (sp 12 13))
          (sp 0 13))) ∷ []);
      span = (sp 0 13);
    })))
    -- for ( let a of b ) c
    × (lowered (codes "for ( let a of b ) c")
    (tok k.ForWord 0 3 ∷ tok k.OpenParen 4 5 ∷ tok k.LetWord 6 9 ∷ tok k.Name 10 11 ∷ tok k.OfWord 12 14
    ∷ tok k.Name 15 16 ∷ tok k.CloseParen 17 18 ∷ tok k.Name 19 20 ∷ [])
    (branch l.Module 0 8
    ((group []) ∷ (group
    ((group ((branch l.ForEachStatement 0 8
    ((branch l.VariableHead 2 4 ((leaf 2) ∷ (branch l.NamePattern 3 4 ((leaf 3) ∷ [])) ∷ []))
    ∷ (group ((leaf 4) ∷ (branch l.Name 5 6 ((leaf 5) ∷ [])) ∷ []))
    ∷ (branch l.ExpressionStatement 7 8
    ((branch l.Name 7 8 ((leaf 7) ∷ [])) ∷ (group []) ∷ [])) ∷ [])) ∷ [])) ∷ []))
    ∷ [])) ≡ Some (vProgram.Module
    (record {
      shebang = None;
      body =
          ((vItem.Stmt (vStmt.ForOf false (Some vVariable.Let)
          (vPat.Ident (id (codes "a") 10 11) None (sp 10 11))
          (vExpr.Ident (id (codes "b") 15 16))
          (vStmt.Expr (vExpr.Ident (id (codes "c") 19 20))
          (sp 19 20)) (sp 0 20))) ∷ []);
      span = (sp 0 20);
    })))
    -- for ( a . b in c ) d
    × (lowered (codes "for ( a . b in c ) d")
    (tok k.ForWord 0 3 ∷ tok k.OpenParen 4 5 ∷ tok k.Name 6 7 ∷ tok k.Dot 8 9 ∷ tok k.Name 10 11
    ∷ tok k.InWord 12 14 ∷ tok k.Name 15 16 ∷ tok k.CloseParen 17 18 ∷ tok k.Name 19 20 ∷ [])
    (branch l.Module 0 9
    ((group []) ∷ (group
    ((group ((branch l.ForEachStatement 0 9
    ((role l.Target (branch l.Chain 2 5
    ((branch l.Name 2 3 ((leaf 2) ∷ [])) ∷ (branch l.MemberPost 3 5 ((leaf 4) ∷ []))
    ∷ (group []) ∷ [])))
    ∷ (group ((leaf 5) ∷ (branch l.Name 6 7 ((leaf 6) ∷ [])) ∷ []))
    ∷ (branch l.ExpressionStatement 8 9
    ((branch l.Name 8 9 ((leaf 8) ∷ [])) ∷ (group []) ∷ [])) ∷ [])) ∷ []))
    ∷ [])) ∷ [])) ≡ Some
    (vProgram.Module (record {
      shebang = None;
      body =
          ((vItem.Stmt (vStmt.ForIn None
          (vPat.Expr (vExpr.Member
          (vExpr.Ident (id (codes "a") 6 7)) false false
          (id (codes "b") 10 11) (sp 6 11)))
          (vExpr.Ident (id (codes "c") 15 16))
          (vStmt.Expr (vExpr.Ident
          (id (codes "d") 19 20))
          (sp 19 20)) (sp 0 20)))
          ∷ []);
      span = (sp 0 20);
    })))
    -- for ( let of of a ) b
    × (lowered (codes "for ( let of of a ) b")
    (tok k.ForWord 0 3 ∷ tok k.OpenParen 4 5 ∷ tok k.LetWord 6 9 ∷ tok k.OfWord 10 12 ∷ tok k.OfWord 13 15
    ∷ tok k.Name 16 17 ∷ tok k.CloseParen 18 19 ∷ tok k.Name 20 21 ∷ [])
    (branch l.Module 0 8
    ((group []) ∷ (group
    ((group ((branch l.ForEachStatement 0 8
    ((branch l.VariableHead 2 4 ((leaf 2) ∷ (branch l.NamePattern 3 4 ((leaf 3) ∷ [])) ∷ []))
    ∷ (group ((leaf 4) ∷ (branch l.Name 5 6 ((leaf 5) ∷ [])) ∷ []))
    ∷ (branch l.ExpressionStatement 7 8
    ((branch l.Name 7 8 ((leaf 7) ∷ [])) ∷ (group []) ∷ [])) ∷ [])) ∷ [])) ∷ []))
    ∷ [])) ≡ Some (vProgram.Module
    (record {
      shebang = None;
      body =
          ((vItem.Stmt (vStmt.ForOf false (Some vVariable.Let)
          (vPat.Ident (id (codes "of") 10 12) None (sp 10 12))
          (vExpr.Ident (id (codes "a") 16 17))
          (vStmt.Expr (vExpr.Ident (id (codes "b") 20 21))
          (sp 20 21)) (sp 0 21))) ∷ []);
      span = (sp 0 21);
    })))
    -- for await ( a of b ) c
    × (lowered (codes "for await ( a of b ) c")
    (tok k.ForWord 0 3 ∷ tok k.AwaitWord 4 9 ∷ tok k.OpenParen 10 11 ∷ tok k.Name 12 13 ∷ tok k.OfWord 14 16
    ∷ tok k.Name 17 18 ∷ tok k.CloseParen 19 20 ∷ tok k.Name 21 22 ∷ [])
    (branch l.Module 0 8
    ((group []) ∷ (group
    ((group ((branch l.ForAwaitStatement 0 8
    ((role l.Target (branch l.Name 3 4 ((leaf 3) ∷ []))) ∷ (branch l.Name 5 6 ((leaf 5) ∷ []))
    ∷ (branch l.ExpressionStatement 7 8
    ((branch l.Name 7 8 ((leaf 7) ∷ [])) ∷ (group []) ∷ [])) ∷ [])) ∷ [])) ∷ []))
    ∷ [])) ≡ Some (vProgram.Module
    (record {
      shebang = None;
      body =
          ((vItem.Stmt (vStmt.ForOf true None
          (vPat.Expr (vExpr.Ident (id (codes "a") 12 13)))
          (vExpr.Ident (id (codes "b") 17 18))
          (vStmt.Expr (vExpr.Ident (id (codes "c") 21 22))
          (sp 21 22)) (sp 0 22))) ∷ []);
      span = (sp 0 22);
    })))
    -- do a ; while ( b )
    × (lowered (codes "do a ; while ( b )")
    (tok k.DoWord 0 2 ∷ tok k.Name 3 4 ∷ tok k.Semicolon 5 6 ∷ tok k.WhileWord 7 12 ∷ tok k.OpenParen 13 14
    ∷ tok k.Name 15 16 ∷ tok k.CloseParen 17 18 ∷ [])
    (branch l.Module 0 7
    ((group []) ∷ (group
    ((group ((branch l.DoStatement 0 7
    ((branch l.ExpressionStatement 1 3 ((branch l.Name 1 2 ((leaf 1) ∷ [])) ∷ (group []) ∷ []))
    ∷ (branch l.Name 5 6 ((leaf 5) ∷ [])) ∷ (group []) ∷ [])) ∷ [])) ∷ [])) ∷ []))
    ≡ Some (vProgram.Module
    (record {
      shebang = None;
      body =
          ((vItem.Stmt (vStmt.DoWhile
          (vStmt.Expr (vExpr.Ident (id (codes "a") 3 4)) (sp 3 6))
          (vExpr.Ident (id (codes "b") 15 16)) (sp 0 18))) ∷ []);
      span =
          (sp 0 18);
    })))
    -- return⏎ a (a script)
    × (lowered (codes "return  a") (tok k.ReturnWord 0 6 ∷ tok k.Name 8 9 ∷ [])
    (branch l.Script 0 2
    ((group []) ∷ (group
    ((group ((branch l.ReturnStatement 0 1 ((group ((group []) ∷ [])) ∷ [])) ∷ []))
    ∷ (group ((branch l.ExpressionStatement 1 2
    ((branch l.Name 1 2 ((leaf 1) ∷ [])) ∷ (group []) ∷ [])) ∷ [])) ∷ [])) ∷ []))
    ≡ Some (vProgram.Script
    (record {
      shebang = None;
      body =
          ((vStmt.Return None (sp 0 6))
          ∷ (vStmt.Expr (vExpr.Ident (id (codes "a") 8 9)) (sp 8 9)) ∷ []);
      span =
          (sp 0 9);
    })))
    -- try { } catch { } finally { }
    × (lowered (codes "try { } catch { } finally { }")
    (tok k.TryWord 0 3 ∷ tok k.OpenBrace 4 5 ∷ tok k.CloseBrace 6 7 ∷ tok k.CatchWord 8 13 ∷ tok k.OpenBrace 14 15
    ∷ tok k.CloseBrace 16 17 ∷ tok k.FinallyWord 18 25 ∷ tok k.OpenBrace 26 27 ∷ tok k.CloseBrace 28 29 ∷ [])
    (branch l.Module 0 9
    ((group []) ∷ (group
    ((group ((branch l.TryStatement 0 9
    ((branch l.Block 1 3 ((group []) ∷ []))
    ∷ (group ((group []) ∷ (branch l.Block 4 6 ((group []) ∷ []))
    ∷ (group ((branch l.Block 7 9 ((group []) ∷ [])) ∷ [])) ∷ [])) ∷ [])) ∷ [])) ∷ []))
    ∷ [])) ≡ Some (vProgram.Module
    (record {
      shebang = None;
      body =
          ((vItem.Stmt (vStmt.Try (vStmt.Block [] (sp 4 7)) None
          (Some (vStmt.Block [] (sp 14 17)))
          (Some (vStmt.Block [] (sp 26 29))) (sp 0 29))) ∷ []);
      span =
          (sp 0 29);
    })))
    -- switch ( a ) { case b : c ; default : }
    × (lowered (codes "switch ( a ) { case b : c ; default : }")
    (tok k.SwitchWord 0 6 ∷ tok k.OpenParen 7 8 ∷ tok k.Name 9 10 ∷ tok k.CloseParen 11 12 ∷ tok k.OpenBrace 13 14
    ∷ tok k.CaseWord 15 19 ∷ tok k.Name 20 21 ∷ tok k.Colon 22 23 ∷ tok k.Name 24 25 ∷ tok k.Semicolon 26 27
    ∷ tok k.DefaultWord 28 35 ∷ tok k.Colon 36 37 ∷ tok k.CloseBrace 38 39 ∷ [])
    (branch l.Module 0 13
    ((group []) ∷ (group
    ((group ((branch l.SwitchStatement 0 13
    ((branch l.Name 2 3 ((leaf 2) ∷ []))
    ∷ (group ((group ((group ((branch l.Name 6 7 ((leaf 6) ∷ [])) ∷ []))
    ∷ (group ((group ((branch l.ExpressionStatement 8 10
    ((branch l.Name 8 9 ((leaf 8) ∷ [])) ∷ (group []) ∷ [])) ∷ [])) ∷ []))
    ∷ [])) ∷ (group ((group []) ∷ (group []) ∷ [])) ∷ [])) ∷ [])) ∷ []))
    ∷ [])) ∷ [])) ≡ Some
    (vProgram.Module (record {
      shebang = None;
      body =
          ((vItem.Stmt (vStmt.Switch
          (vExpr.Ident (id (codes "a") 9 10))
          ((clause (Some (vExpr.Ident
          (id (codes "b") 20 21)))
          ((vStmt.Expr (vExpr.Ident
          (id (codes "c") 24 25)) (sp 24 27))
          ∷ []) (sp 15 27)) ∷ (clause
          None [] (sp 28 37)) ∷ [])
          (sp 0 39))) ∷ []);
      span = (sp 0 39);
    })))
    -- var a = b , { c } = d
    × (lowered (codes "var a = b , { c } = d")
    (tok k.VarWord 0 3 ∷ tok k.Name 4 5 ∷ tok k.Equal 6 7 ∷ tok k.Name 8 9 ∷ tok k.Comma 10 11
    ∷ tok k.OpenBrace 12 13 ∷ tok k.Name 14 15 ∷ tok k.CloseBrace 16 17 ∷ tok k.Equal 18 19 ∷ tok k.Name 20 21
    ∷ []) (branch l.Module 0 10
    ((group []) ∷ (group
    ((group ((branch l.VariableDeclaration 0 10
    ((branch l.Variables 0 10
    ((leaf 0) ∷ (branch l.Declarator 1 4
    ((branch l.NamePattern 1 2 ((leaf 1) ∷ [])) ∷ (branch l.Name 3 4 ((leaf 3) ∷ []))
    ∷ [])) ∷ (group ((group
    ((branch l.Declarator 5 10
    ((branch l.ObjectPattern 5 8
    ((group ((group ((branch l.NameProperty 6 7
    ((leaf 6) ∷ (group []) ∷ [])) ∷ (group []) ∷ [])) ∷ [])) ∷ []))
    ∷ (branch l.Name 9 10 ((leaf 9) ∷ [])) ∷ [])) ∷ [])) ∷ []))
    ∷ [])) ∷ (group []) ∷ [])) ∷ [])) ∷ [])) ∷ []))
    ≡ Some (vProgram.Module
    (record {
      shebang = None;
      body =
          ((vItem.Stmt (vStmt.Decl
          (vDecl.Var false vVariable.Var
          ((declarator (vPat.Ident
          (id (codes "a") 4 5) None
          (sp 4 5)) (Some (vExpr.Ident (id (codes "b") 8 9))) (sp 4 9)) ∷ (declarator (vPat.Object ((vPatProp.Assign (id (codes "c") 14 15) None (sp 14 15)) ∷ []) false None (sp 12 17)) (Some (vExpr.Ident (id (codes "d") 20 21))) (sp 12 21)) ∷ []) (sp 0 21)))) ∷ []);
      span = (sp 0 21);
    })))
    -- using a = b
    × (lowered (codes "using a = b") (tok k.UsingWord 0 5 ∷ tok k.Name 6 7 ∷ tok k.Equal 8 9 ∷ tok k.Name 10 11 ∷ [])
    (branch l.Module 0 4
    ((group []) ∷ (group
    ((group ((branch l.UsingDeclaration 0 4
    ((branch l.Using 0 4
    ((group []) ∷ (branch l.Declarator 1 4
    ((branch l.NamePattern 1 2 ((leaf 1) ∷ [])) ∷ (branch l.Name 3 4 ((leaf 3) ∷ [])) ∷ []))
    ∷ (group []) ∷ [])) ∷ (group []) ∷ [])) ∷ [])) ∷ [])) ∷ []))
    ≡ Some (vProgram.Module
    (record {
      shebang = None;
      body =
          ((vItem.Stmt (vStmt.Decl
          (vDecl.Var false vVariable.Using
          ((declarator (vPat.Ident (id (codes "a") 6 7) None (sp 6 7))
          (Some (vExpr.Ident (id (codes "b") 10 11))) (sp 6 11)) ∷ [])
          (sp 0 11)))) ∷ []);
      span = (sp 0 11);
    })))
    -- with ( a ) b (a script)
    × (lowered (codes "with ( a ) b")
    (tok k.WithWord 0 4 ∷ tok k.OpenParen 5 6 ∷ tok k.Name 7 8 ∷ tok k.CloseParen 9 10 ∷ tok k.Name 11 12 ∷ [])
    (branch l.Script 0 5
    ((group []) ∷ (group
    ((group ((branch l.WithStatement 0 5
    ((branch l.Name 2 3 ((leaf 2) ∷ []))
    ∷ (branch l.ExpressionStatement 4 5
    ((branch l.Name 4 5 ((leaf 4) ∷ [])) ∷ (group []) ∷ [])) ∷ [])) ∷ [])) ∷ [])) ∷ []))
    ≡ Some (vProgram.Script
    (record {
      shebang = None;
      body =
          ((vStmt.With (vExpr.Ident (id (codes "a") 7 8))
          (vStmt.Expr (vExpr.Ident (id (codes "b") 11 12)) (sp 11 12)) (sp 0 12))
          ∷ []);
      span = (sp 0 12);
    })))
unfolding lowered texts_end_before texts_span_of texts_ident_of texts_private_of texts_str_of texts_numeric_of
    texts_regex_of texts_stop_of texts_piece_of texts_shebang_of texts_property_of texts_name_of texts_this_or_name_of
    operators_unary_ops operators_update_ops operators_arithmetic_ops operators_logical_ops operators_assign_ops
    operators_variable_kinds operators_accessor_kinds operators_greater_op operators_greater_assign
    operators_binary_of operators_assign_of expressions_name expressions_word_of expressions_word
    expressions_number expressions_str expressions_regexp expressions_template
    expressions_template_parts expressions_array_literal expressions_object_literal
    expressions_parenthesized expressions_spread expressions_arguments expressions_member_post
    expressions_index_post expressions_call_post expressions_template_post
    expressions_optional_post expressions_chain expressions_import_call
    expressions_new_ expressions_prefix expressions_await_
    expressions_update_prefix expressions_update_postfix expressions_binary
    expressions_private_in expressions_conditional expressions_assignment
    expressions_pattern_assignment expressions_yield_
    expressions_sequence patterns_name_pattern
    patterns_array_pattern patterns_object_pattern
    patterns_rest_pattern patterns_default_pattern
    patterns_rest_property patterns_key_pattern
    patterns_name_property
    functions_default_parameter
    functions_parameters
    functions_signature functions_function functions_method_at functions_name_arrow functions_parenthesized_arrow functions_word_key functions_str_key functions_number_key functions_computed_key functions_private_key functions_spread_property functions_shorthand functions_key_value functions_method_property functions_accessor_property classes_class_ classes_static_block classes_method_member classes_accessor_member classes_field_member statements_block statements_declarator statements_variables statements_using_ statements_variable_declaration statements_variable_head statements_using_head statements_for_ statements_for_each statements_for_await statements_while_ statements_do_ statements_expression_statement statements_labelled statements_if_ statements_continue_ statements_break_ statements_return_ statements_throw_ statements_switch_ statements_try_ statements_with_ modules_attributes modules_namespace modules_named_imports modules_default_clause modules_default_and_clause modules_renamed_import modules_imported_name modules_bare_import modules_from_import modules_phase_import modules_require_import modules_entity_import modules_entity modules_export_all modules_export_names modules_exported_name modules_export_namespace modules_export_default_decl modules_export_default_expression modules_export_declaration modules_module_ modules_script lower_expr_of lower_pat_of lower_variables_of lower_decl_of lower_block_of lower_stmt_of lower_declarator_of lower_param_of lower_head_of lower_params_of lower_pat_prop_of lower_key_of lower_prop_of lower_member_of lower_post_of lower_args_of lower_names_of lower_clause_of lower_import_specifier_of lower_export_specifier_of lower_attributes_of lower_entity_of lower_module_decl_of lower_program_of lowering_build lower_value_of
statements = (
  refl,
  refl,
  refl,
  refl,
  refl,
  refl,
  refl,
  refl,
  refl,
  refl,
  refl,
  refl,
  refl,
  refl,
  refl,
  refl,
  refl,
  refl,
)

declarations :
    -- function a ( b , ...c ) { }
    (lowered (codes "function a ( b , ...c ) { }")
    (tok k.FunctionWord 0 8 ∷ tok k.Name 9 10 ∷ tok k.OpenParen 11 12 ∷ tok k.Name 13 14 ∷ tok k.Comma 15 16
    ∷ tok k.Ellipsis 17 20 ∷ tok k.Name 20 21 ∷ tok k.CloseParen 22 23 ∷ tok k.OpenBrace 24 25
    ∷ tok k.CloseBrace 26 27 ∷ [])
    (branch l.Module 0 10
    ((group []) ∷ (group
    ((group ((branch l.Function 0 10
    ((group []) ∷ (leaf 1)
    ∷ (branch l.Signature 2 8
    ((branch l.Parameters 3 7
    ((group ((group ((branch l.NamePattern 3 4 ((leaf 3) ∷ [])) ∷ (group [])
    ∷ [])) ∷ [])) ∷ (group
    ((branch l.NamePattern 6 7 ((leaf 6) ∷ [])) ∷ [])) ∷ [])) ∷ []))
    ∷ (branch l.Block 8 10 ((group []) ∷ [])) ∷ [])) ∷ [])) ∷ []))
    ∷ [])) ≡ Some (vProgram.Module
    (record {
      shebang = None;
      body =
          ((vItem.Stmt (vStmt.Decl
          (vDecl.Fn false (function_
          (Some (id (codes "a") 9 10)) false false
          ((param (vPat.Ident (id (codes "b") 13
          14) None (sp 13 14)) (sp 13 14))
          ∷ (param (vPat.Rest (vPat.Ident
          (id (codes "c") 20 21) None
          (sp 20 21)) None (sp 17
          21)) (sp 17 21)) ∷ []) (vStmt.Block [] (sp 24 27)) (sp 0 27)) (sp 0 27)))) ∷ []);
      span = (sp 0 27);
    })))
    -- async function * a ( ) { }
    × (lowered (codes "async function * a ( ) { }")
    (tok k.AsyncWord 0 5 ∷ tok k.FunctionWord 6 14 ∷ tok k.Star 15 16 ∷ tok k.Name 17 18 ∷ tok k.OpenParen 19 20
    ∷ tok k.CloseParen 21 22 ∷ tok k.OpenBrace 23 24 ∷ tok k.CloseBrace 25 26 ∷ [])
    (branch l.Module 0 8
    ((group []) ∷ (group
    ((group ((branch l.AsyncFunction 0 8
    ((group ((leaf 2) ∷ [])) ∷ (leaf 3)
    ∷ (branch l.Signature 4 6
    ((branch l.Parameters 5 5 ((group []) ∷ (group []) ∷ [])) ∷ []))
    ∷ (branch l.Block 6 8 ((group []) ∷ [])) ∷ [])) ∷ [])) ∷ [])) ∷ []))
    ≡ Some (vProgram.Module
    (record {
      shebang = None;
      body =
          ((vItem.Stmt (vStmt.Decl
          (vDecl.Fn false (function_ (Some (id (codes "a") 17 18)) true
          true [] (vStmt.Block [] (sp 23 26)) (sp 0 26)) (sp 0 26))))
          ∷ []);
      span = (sp 0 26);
    })))
    -- function * a ( ) { yield⏎ b }
    × (lowered (codes "function * a ( ) { yield  b }")
    (tok k.FunctionWord 0 8 ∷ tok k.Star 9 10 ∷ tok k.Name 11 12 ∷ tok k.OpenParen 13 14 ∷ tok k.CloseParen 15 16
    ∷ tok k.OpenBrace 17 18 ∷ tok k.YieldWord 19 24 ∷ tok k.Name 26 27 ∷ tok k.CloseBrace 28 29 ∷ [])
    (branch l.Module 0 9
    ((group []) ∷ (group
    ((group ((branch l.Function 0 9
    ((group ((leaf 1) ∷ [])) ∷ (leaf 2)
    ∷ (branch l.Signature 3 5
    ((branch l.Parameters 4 4 ((group []) ∷ (group []) ∷ [])) ∷ []))
    ∷ (branch l.Block 5 9
    ((group ((group ((branch l.ExpressionStatement 6 7
    ((branch l.Yield 6 7 ((group []) ∷ [])) ∷ (group []) ∷ [])) ∷ []))
    ∷ (group ((branch l.ExpressionStatement 7 8
    ((branch l.Name 7 8 ((leaf 7) ∷ [])) ∷ (group []) ∷ [])) ∷ []))
    ∷ [])) ∷ [])) ∷ [])) ∷ [])) ∷ [])) ∷ []))
    ≡ Some (vProgram.Module
    (record {
      shebang = None;
      body =
          ((vItem.Stmt (vStmt.Decl
          (vDecl.Fn false (function_
          (Some (id (codes "a") 11 12)) false
          true [] (vStmt.Block
          ((vStmt.Expr (vExpr.Yield false
          None (sp 19 24)) (sp 19
          24)) ∷ (vStmt.Expr (vExpr.Ident (id (codes "b") 26 27)) (sp 26 27)) ∷ []) (sp 17 29)) (sp 0 29)) (sp 0 29)))) ∷ []);
      span = (sp 0 29);
    })))
    -- class a extends b { static c = d ; e ( ) { } #f }
    × (lowered (codes "class a extends b { static c = d ; e ( ) { } #f }")
    (tok k.ClassWord 0 5 ∷ tok k.Name 6 7 ∷ tok k.ExtendsWord 8 15 ∷ tok k.Name 16 17 ∷ tok k.OpenBrace 18 19
    ∷ tok k.StaticWord 20 26 ∷ tok k.Name 27 28 ∷ tok k.Equal 29 30 ∷ tok k.Name 31 32 ∷ tok k.Semicolon 33 34
    ∷ tok k.Name 35 36 ∷ tok k.OpenParen 37 38 ∷ tok k.CloseParen 39 40 ∷ tok k.OpenBrace 41 42
    ∷ tok k.CloseBrace 43 44 ∷ tok k.PrivateName 45 47 ∷ tok k.CloseBrace 48 49 ∷ [])
    (branch l.Module 0 17
    ((group []) ∷ (group
    ((group ((branch l.Class 0 17
    ((leaf 1) ∷ (group ((branch l.Name 3 4 ((leaf 3) ∷ [])) ∷ []))
    ∷ (group ((group ((branch l.FieldMember 5 10
    ((group ((leaf 5) ∷ [])) ∷ (branch l.WordKey 6 7 ((leaf 6) ∷ []))
    ∷ (group ((branch l.Name 8 9 ((leaf 8) ∷ [])) ∷ [])) ∷ (group [])
    ∷ [])) ∷ [])) ∷ (group
    ((branch l.MethodMember 10 15
    ((group []) ∷ (branch l.WordKey 10 11 ((leaf 10) ∷ []))
    ∷ (branch l.Signature 11 13
    ((branch l.Parameters 12 12
    ((group []) ∷ (group []) ∷ [])) ∷ []))
    ∷ (branch l.Block 13 15 ((group []) ∷ []))
    ∷ [])) ∷ [])) ∷ (group
    ((branch l.FieldMember 15 16
    ((group []) ∷ (branch
    l.PrivateKey 15 16 ((leaf
    15) ∷ [])) ∷ (group [])
    ∷ (group []) ∷ [])) ∷ [])) ∷ [])) ∷ [])) ∷ [])) ∷ [])) ∷ [])) ≡ Some (vProgram.Module (record { shebang = None; body = ((vItem.Stmt (vStmt.Decl (vDecl.Class false (class_ (Some (id (codes "a") 6 7)) (Some (vExpr.Ident (id (codes "b") 16 17))) ((vMember.Prop (modifiers true false) false (vExpr.Ident (id (codes "c") 27 28)) false false None (Some (vExpr.Ident (id (codes "d") 31 32))) (sp 20 34)) ∷ (vMember.Method (modifiers false false) vMethod.Method false (vExpr.Ident (id (codes "e") 35 36)) false (function_ None false false [] (vStmt.Block [] (sp 41 44)) (sp 37 44)) (sp 35 44)) ∷ (vMember.Prop (modifiers false false) false (vExpr.PrivateName (id (codes "f") 45 47)) false false None None (sp 45 47)) ∷ []) (sp 0 49)) (sp 0 49)))) ∷ []); span = (sp 0 49) })))
unfolding lowered texts_end_before texts_span_of texts_ident_of texts_private_of texts_str_of texts_numeric_of
    texts_regex_of texts_stop_of texts_piece_of texts_shebang_of texts_property_of texts_name_of texts_this_or_name_of
    operators_unary_ops operators_update_ops operators_arithmetic_ops operators_logical_ops operators_assign_ops
    operators_variable_kinds operators_accessor_kinds operators_greater_op operators_greater_assign
    operators_binary_of operators_assign_of expressions_name expressions_word_of expressions_word
    expressions_number expressions_str expressions_regexp expressions_template
    expressions_template_parts expressions_array_literal expressions_object_literal
    expressions_parenthesized expressions_spread expressions_arguments expressions_member_post
    expressions_index_post expressions_call_post expressions_template_post
    expressions_optional_post expressions_chain expressions_import_call
    expressions_new_ expressions_prefix expressions_await_
    expressions_update_prefix expressions_update_postfix expressions_binary
    expressions_private_in expressions_conditional expressions_assignment
    expressions_pattern_assignment expressions_yield_
    expressions_sequence patterns_name_pattern
    patterns_array_pattern patterns_object_pattern
    patterns_rest_pattern patterns_default_pattern
    patterns_rest_property patterns_key_pattern
    patterns_name_property
    functions_default_parameter
    functions_parameters
    functions_signature functions_function functions_method_at functions_name_arrow functions_parenthesized_arrow functions_word_key functions_str_key functions_number_key functions_computed_key functions_private_key functions_spread_property functions_shorthand functions_key_value functions_method_property functions_accessor_property classes_class_ classes_static_block classes_method_member classes_accessor_member classes_field_member statements_block statements_declarator statements_variables statements_using_ statements_variable_declaration statements_variable_head statements_using_head statements_for_ statements_for_each statements_for_await statements_while_ statements_do_ statements_expression_statement statements_labelled statements_if_ statements_continue_ statements_break_ statements_return_ statements_throw_ statements_switch_ statements_try_ statements_with_ modules_attributes modules_namespace modules_named_imports modules_default_clause modules_default_and_clause modules_renamed_import modules_imported_name modules_bare_import modules_from_import modules_phase_import modules_require_import modules_entity_import modules_entity modules_export_all modules_export_names modules_exported_name modules_export_namespace modules_export_default_decl modules_export_default_expression modules_export_declaration modules_module_ modules_script lower_expr_of lower_pat_of lower_variables_of lower_decl_of lower_block_of lower_stmt_of lower_declarator_of lower_param_of lower_head_of lower_params_of lower_pat_prop_of lower_key_of lower_prop_of lower_member_of lower_post_of lower_args_of lower_names_of lower_clause_of lower_import_specifier_of lower_export_specifier_of lower_attributes_of lower_entity_of lower_module_decl_of lower_program_of lowering_build lower_value_of
declarations = (refl, refl, refl, refl)

items :
    -- import "a"
    (lowered (codes "import 'a'") (tok k.ImportWord 0 6 ∷ tok k.Str 7 10 ∷ [])
    (branch l.Module 0 2
    ((group []) ∷ (group
    ((group ((branch l.BareImport 0 2 ((leaf 1) ∷ (group []) ∷ (group []) ∷ [])) ∷ [])) ∷ [])) ∷ []))
    ≡ Some (vProgram.Module
    (record {
      shebang = None;
      body =
          ((vItem.ModuleDecl (vModuleDecl.Import
          (record {
            type_only = false;
            phase = vPhase.Evaluation;
            clause = None;
            src = (str (codes "'a'") 7 10);
            with =
                None;
            span = (sp 0 10);
          }))) ∷ []);
      span = (sp 0 10);
    })))
    -- import a , { b as c } from "d"
    × (lowered (codes "import a , { b as c } from 'd'")
    (tok k.ImportWord 0 6 ∷ tok k.Name 7 8 ∷ tok k.Comma 9 10 ∷ tok k.OpenBrace 11 12 ∷ tok k.Name 13 14
    ∷ tok k.AsWord 15 17 ∷ tok k.Name 18 19 ∷ tok k.CloseBrace 20 21 ∷ tok k.FromWord 22 26 ∷ tok k.Str 27 30
    ∷ []) (branch l.Module 0 10
    ((group []) ∷ (group
    ((group ((branch l.FromImport 0 10
    ((group []) ∷ (branch l.DefaultAndClause 1 8
    ((leaf 1) ∷ (branch l.NamedImports 3 8
    ((group ((group ((branch l.RenamedImport 4 7
    ((group []) ∷ (group ((leaf 4) ∷ [])) ∷ (leaf 6) ∷ [])) ∷ (group []) ∷ []))
    ∷ [])) ∷ [])) ∷ [])) ∷ (leaf 9) ∷ (group []) ∷ (group []) ∷ [])) ∷ []))
    ∷ [])) ∷ [])) ≡ Some
    (vProgram.Module (record {
      shebang = None;
      body =
          ((vItem.ModuleDecl (vModuleDecl.Import
          (record {
            type_only = false;
            phase = vPhase.Evaluation;
            clause =
                (Some (vClause.Both (id (codes "a") 7 8)
                (vNames.Named ((record {
                  type_only = false;
                  imported =
                      (Some (vName.Ident (id (codes "b") 13
                      14)));
                  local = (id (codes "c") 18
                      19);
                  span = (sp 13 19);
                }) ∷ [])
                (sp 11 21)) (sp 7 21)));
            src = (str (codes "'d'") 27 30);
            with = None;
            span = (sp 0 30);
          }))) ∷ []);
      span = (sp 0 30);
    })))
    -- import * as a from "b" with { c : "d" }
    × (lowered (codes "import * as a from 'b' with { c : 'd' }")
    (tok k.ImportWord 0 6 ∷ tok k.Star 7 8 ∷ tok k.AsWord 9 11 ∷ tok k.Name 12 13 ∷ tok k.FromWord 14 18
    ∷ tok k.Str 19 22 ∷ tok k.WithWord 23 27 ∷ tok k.OpenBrace 28 29 ∷ tok k.Name 30 31 ∷ tok k.Colon 32 33
    ∷ tok k.Str 34 37 ∷ tok k.CloseBrace 38 39 ∷ [])
    (branch l.Module 0 12
    ((group []) ∷ (group
    ((group ((branch l.FromImport 0 12
    ((group []) ∷ (branch l.Namespace 1 4 ((leaf 3) ∷ [])) ∷ (leaf 5)
    ∷ (group ((branch l.Attributes 6 12
    ((group ((group ((group ((leaf 8) ∷ [])) ∷ (leaf 10) ∷ (group []) ∷ [])) ∷ []))
    ∷ [])) ∷ [])) ∷ (group []) ∷ [])) ∷ [])) ∷ [])) ∷ []))
    ≡ Some (vProgram.Module
    (record {
      shebang = None;
      body =
          ((vItem.ModuleDecl (vModuleDecl.Import
          (record {
            type_only = false;
            phase = vPhase.Evaluation;
            clause =
                (Some (vClause.Names
                (vNames.Namespace (id (codes "a") 12 13)
                (sp 7 13))));
            src = (str (codes "'b'") 19 22);
            with = (Some (record {
              items = ((record {
                key =
                    (vName.Ident (id (codes "c") 30
                    31));
                value = (str (codes
                    "'d'") 34 37);
                span =
                    (sp 30 37);
              }) ∷ []);
              span = (sp 23 39);
            }));
            span = (sp 0 39);
          }))) ∷ []);
      span = (sp 0 39);
    })))
    -- export * from "a"
    × (lowered (codes "export * from 'a'")
    (tok k.ExportWord 0 6 ∷ tok k.Star 7 8 ∷ tok k.FromWord 9 13 ∷ tok k.Str 14 17 ∷ [])
    (branch l.Module 0 4
    ((group []) ∷ (group
    ((group ((branch l.ExportAll 0 4
    ((group []) ∷ (group []) ∷ (leaf 3) ∷ (group []) ∷ (group []) ∷ [])) ∷ [])) ∷ [])) ∷ []))
    ≡ Some (vProgram.Module
    (record {
      shebang = None;
      body =
          ((vItem.ModuleDecl (vModuleDecl.ExportAll
          (record {
            type_only = false;
            exported = None;
            src =
                (str (codes "'a'") 14 17);
            with = None;
            span = (sp 0 17);
          }))) ∷ []);
      span =
          (sp 0 17);
    })))
    -- export { a as b }
    × (lowered (codes "export { a as b }")
    (tok k.ExportWord 0 6 ∷ tok k.OpenBrace 7 8 ∷ tok k.Name 9 10 ∷ tok k.AsWord 11 13 ∷ tok k.Name 14 15
    ∷ tok k.CloseBrace 16 17 ∷ [])
    (branch l.Module 0 6
    ((group []) ∷ (group
    ((group ((branch l.ExportNames 0 6
    ((group []) ∷ (group
    ((group ((branch l.ExportedName 2 5
    ((group []) ∷ (group ((leaf 2) ∷ [])) ∷ (group ((group ((leaf 4) ∷ [])) ∷ []))
    ∷ [])) ∷ (group []) ∷ [])) ∷ [])) ∷ (group []) ∷ (group []) ∷ [])) ∷ []))
    ∷ [])) ∷ [])) ≡ Some
    (vProgram.Module (record {
      shebang = None;
      body =
          ((vItem.ModuleDecl (vModuleDecl.ExportNamed
          (record {
            type_only = false;
            specifiers =
                ((record {
                  type_only = false;
                  orig =
                      (vName.Ident (id (codes "a") 9 10));
                  exported =
                      (Some (vName.Ident (id (codes "b") 14 15)));
                  span = (sp 9 15);
                }) ∷ []);
            src =
                None;
            with = None;
            span = (sp 0 17);
          }))) ∷ []);
      span = (sp 0 17);
    })))
    -- export default a
    × (lowered (codes "export default a") (tok k.ExportWord 0 6 ∷ tok k.DefaultWord 7 14 ∷ tok k.Name 15 16 ∷ [])
    (branch l.Module 0 3
    ((group []) ∷ (group
    ((group ((branch l.ExportDefaultExpression 0 3 ((branch l.Name 2 3 ((leaf 2) ∷ [])) ∷ (group []) ∷ []))
    ∷ [])) ∷ [])) ∷ []))
    ≡ Some (vProgram.Module
    (record {
      shebang = None;
      body =
          ((vItem.ModuleDecl (vModuleDecl.ExportDefaultExpr (vExpr.Ident (id (codes "a") 15 16))
          (sp 0 16))) ∷ []);
      span = (sp 0 16);
    })))
    -- export default function ( ) { }
    × (lowered (codes "export default function ( ) { }")
    (tok k.ExportWord 0 6 ∷ tok k.DefaultWord 7 14 ∷ tok k.FunctionWord 15 23 ∷ tok k.OpenParen 24 25
    ∷ tok k.CloseParen 26 27 ∷ tok k.OpenBrace 28 29 ∷ tok k.CloseBrace 30 31 ∷ [])
    (branch l.Module 0 7
    ((group []) ∷ (group
    ((group ((branch l.ExportDefaultFunction 0 7
    ((branch l.Function 2 7
    ((group []) ∷ (group [])
    ∷ (branch l.Signature 3 5
    ((branch l.Parameters 4 4 ((group []) ∷ (group []) ∷ [])) ∷ []))
    ∷ (branch l.Block 5 7 ((group []) ∷ [])) ∷ [])) ∷ [])) ∷ [])) ∷ [])) ∷ []))
    ≡ Some (vProgram.Module
    (record {
      shebang = None;
      body =
          ((vItem.ModuleDecl (vModuleDecl.ExportDefaultDecl
          (vDecl.Fn false (function_ None false false []
          (vStmt.Block [] (sp 28 31)) (sp 15 31)) (sp 15 31))
          (sp 0 31))) ∷ []);
      span = (sp 0 31);
    })))
    -- export const a = b
    × (lowered (codes "export const a = b")
    (tok k.ExportWord 0 6 ∷ tok k.ConstWord 7 12 ∷ tok k.Name 13 14 ∷ tok k.Equal 15 16 ∷ tok k.Name 17 18 ∷ [])
    (branch l.Module 0 5
    ((group []) ∷ (group
    ((group ((branch l.ExportDeclaration 0 5
    ((branch l.VariableDeclaration 1 5
    ((branch l.Variables 1 5
    ((leaf 1) ∷ (branch l.Declarator 2 5
    ((branch l.NamePattern 2 3 ((leaf 2) ∷ [])) ∷ (branch l.Name 4 5 ((leaf 4) ∷ []))
    ∷ [])) ∷ (group []) ∷ [])) ∷ (group []) ∷ [])) ∷ [])) ∷ [])) ∷ [])) ∷ []))
    ≡ Some (vProgram.Module
    (record {
      shebang = None;
      body =
          ((vItem.ModuleDecl (vModuleDecl.ExportDecl
          (vDecl.Var false vVariable.Const
          ((declarator (vPat.Ident (id (codes "a") 13 14) None
          (sp 13 14)) (Some (vExpr.Ident (id (codes "b") 17 18)))
          (sp 13 18)) ∷ []) (sp 7 18)) (sp 0 18))) ∷ []);
      span = (sp 0 18);
    })))
    -- import ( a )
    × (lowered (codes "import ( a )")
    (tok k.ImportWord 0 6 ∷ tok k.OpenParen 7 8 ∷ tok k.Name 9 10 ∷ tok k.CloseParen 11 12 ∷ [])
    (branch l.Module 0 4
    ((group []) ∷ (group
    ((group ((branch l.ExpressionStatement 0 4
    ((branch l.ImportCall 0 4 ((branch l.Name 2 3 ((leaf 2) ∷ [])) ∷ (group []) ∷ (group []) ∷ []))
    ∷ (group []) ∷ [])) ∷ [])) ∷ [])) ∷ []))
    ≡ Some (vProgram.Module
    (record {
      shebang = None;
      body =
          ((vItem.Stmt (vStmt.Expr
          (vExpr.ImportCall vPhase.Evaluation ((vExpr.Ident (id (codes "a") 9 10)) ∷ []) (sp 0 12))
          (sp 0 12))) ∷ []);
      span = (sp 0 12);
    })))
    -- import . meta
    × (lowered (codes "import . meta") (tok k.ImportWord 0 6 ∷ tok k.Dot 7 8 ∷ tok k.MetaWord 9 13 ∷ [])
    (branch l.Module 0 3
    ((group []) ∷ (group
    ((group ((branch l.ExpressionStatement 0 3 ((branch l.ImportMeta 0 3 []) ∷ (group []) ∷ [])) ∷ []))
    ∷ [])) ∷ [])) ≡ Some
    (vProgram.Module (record {
      shebang = None;
      body =
          ((vItem.Stmt (vStmt.Expr (vExpr.ImportMeta (sp 0 13)) (sp 0 13))) ∷ []);
      span =
          (sp 0 13);
    })))
    -- import source a from "b"
    × (lowered (codes "import source a from 'b'")
    (tok k.ImportWord 0 6 ∷ tok k.SourceWord 7 13 ∷ tok k.Name 14 15 ∷ tok k.FromWord 16 20 ∷ tok k.Str 21 24 ∷ [])
    (branch l.Module 0 5
    ((group []) ∷ (group
    ((group ((branch l.SourceImport 0 5 ((leaf 2) ∷ (leaf 4) ∷ (group []) ∷ (group []) ∷ [])) ∷ [])) ∷ [])) ∷ []))
    ≡ Some (vProgram.Module
    (record {
      shebang = None;
      body =
          ((vItem.ModuleDecl (vModuleDecl.Import
          (record {
            type_only = false;
            phase = vPhase.Source;
            clause = (Some (vClause.Default (id (codes "a") 14 15)));
            src = (str (codes "'b'") 21 24);
            with = None;
            span = (sp 0 24);
          }))) ∷ []);
      span = (sp 0 24);
    })))
    -- import defer * as a from "b"
    × (lowered (codes "import defer * as a from 'b'")
    (tok k.ImportWord 0 6 ∷ tok k.DeferWord 7 12 ∷ tok k.Star 13 14 ∷ tok k.AsWord 15 17 ∷ tok k.Name 18 19
    ∷ tok k.FromWord 20 24 ∷ tok k.Str 25 28 ∷ [])
    (branch l.Module 0 7
    ((group []) ∷ (group
    ((group ((branch l.DeferImport 0 7 ((leaf 4) ∷ (leaf 6) ∷ (group []) ∷ (group []) ∷ [])) ∷ [])) ∷ [])) ∷ []))
    ≡ Some (vProgram.Module
    (record {
      shebang = None;
      body =
          ((vItem.ModuleDecl (vModuleDecl.Import
          (record {
            type_only = false;
            phase = vPhase.Defer;
            clause =
                (Some (vClause.Names
                (vNames.Namespace (id (codes "a") 18 19) (sp 13 19))));
            src = (str (codes "'b'") 25 28);
            with = None;
            span = (sp 0 28);
          }))) ∷ []);
      span = (sp 0 28);
    })))
    -- import . defer ( a )
    × (lowered (codes "import . defer ( a )")
    (tok k.ImportWord 0 6 ∷ tok k.Dot 7 8 ∷ tok k.DeferWord 9 14 ∷ tok k.OpenParen 15 16 ∷ tok k.Name 17 18
    ∷ tok k.CloseParen 19 20 ∷ [])
    (branch l.Module 0 6
    ((group []) ∷ (group
    ((group ((branch l.ExpressionStatement 0 6
    ((branch l.DeferCall 0 6 ((branch l.Name 4 5 ((leaf 4) ∷ [])) ∷ (group []) ∷ (group []) ∷ []))
    ∷ (group []) ∷ [])) ∷ [])) ∷ [])) ∷ []))
    ≡ Some (vProgram.Module
    (record {
      shebang = None;
      body =
          ((vItem.Stmt (vStmt.Expr
          (vExpr.ImportCall vPhase.Defer ((vExpr.Ident (id (codes "a") 17 18)) ∷ []) (sp 0 20))
          (sp 0 20))) ∷ []);
      span = (sp 0 20);
    })))
    -- nothing
    × (lowered (codes "") [] (branch l.Module 0 0 ((group []) ∷ (group []) ∷ []))
    ≡ Some (vProgram.Module (record { shebang = None; body = []; span = (sp 0 0) })))
unfolding lowered texts_end_before texts_span_of texts_ident_of texts_private_of texts_str_of texts_numeric_of
    texts_regex_of texts_stop_of texts_piece_of texts_shebang_of texts_property_of texts_name_of texts_this_or_name_of
    operators_unary_ops operators_update_ops operators_arithmetic_ops operators_logical_ops operators_assign_ops
    operators_variable_kinds operators_accessor_kinds operators_greater_op operators_greater_assign
    operators_binary_of operators_assign_of expressions_name expressions_word_of expressions_word
    expressions_number expressions_str expressions_regexp expressions_template
    expressions_template_parts expressions_array_literal expressions_object_literal
    expressions_parenthesized expressions_spread expressions_arguments expressions_member_post
    expressions_index_post expressions_call_post expressions_template_post
    expressions_optional_post expressions_chain expressions_import_call
    expressions_new_ expressions_prefix expressions_await_
    expressions_update_prefix expressions_update_postfix expressions_binary
    expressions_private_in expressions_conditional expressions_assignment
    expressions_pattern_assignment expressions_yield_
    expressions_sequence patterns_name_pattern
    patterns_array_pattern patterns_object_pattern
    patterns_rest_pattern patterns_default_pattern
    patterns_rest_property patterns_key_pattern
    patterns_name_property
    functions_default_parameter
    functions_parameters
    functions_signature functions_function functions_method_at functions_name_arrow functions_parenthesized_arrow functions_word_key functions_str_key functions_number_key functions_computed_key functions_private_key functions_spread_property functions_shorthand functions_key_value functions_method_property functions_accessor_property classes_class_ classes_static_block classes_method_member classes_accessor_member classes_field_member statements_block statements_declarator statements_variables statements_using_ statements_variable_declaration statements_variable_head statements_using_head statements_for_ statements_for_each statements_for_await statements_while_ statements_do_ statements_expression_statement statements_labelled statements_if_ statements_continue_ statements_break_ statements_return_ statements_throw_ statements_switch_ statements_try_ statements_with_ modules_attributes modules_namespace modules_named_imports modules_default_clause modules_default_and_clause modules_renamed_import modules_imported_name modules_bare_import modules_from_import modules_phase_import modules_require_import modules_entity_import modules_entity modules_export_all modules_export_names modules_exported_name modules_export_namespace modules_export_default_decl modules_export_default_expression modules_export_declaration modules_module_ modules_script lower_expr_of lower_pat_of lower_variables_of lower_decl_of lower_block_of lower_stmt_of lower_declarator_of lower_param_of lower_head_of lower_params_of lower_pat_prop_of lower_key_of lower_prop_of lower_member_of lower_post_of lower_args_of lower_names_of lower_clause_of lower_import_specifier_of lower_export_specifier_of lower_attributes_of lower_entity_of lower_module_decl_of lower_program_of lowering_build lower_value_of
items = (refl, refl, refl, refl, refl, refl, refl, refl, refl, refl, refl, refl, refl, refl)
