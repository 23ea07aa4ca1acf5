-- What patterns, functions, parameters, keys, properties, classes and members become.
use Rattle.std.specs.Prelude.{Bool, false, List, [], ◌∷◌, Option, Some, None, ◌-◌}
use Rattle.std.proofs.Common.{ℕ, ◌+◌}
use Rattle.base.specs.declared.range.Range.{Range}
use Rattle.es_token.specs.declared.token.Token.{Token}
use Rattle.es_ast.specs.declared.ts.leaf.Ident.{Ident}
use Rattle.es_ast.specs.declared.ts.leaf.MethodKind.{MethodKind}
use Rattle.es_ast.specs.declared.leaf.Lit.TheVariants as vLit
use Rattle.es_ast.specs.declared.ast.Expr.{Expr}
use Rattle.es_ast.specs.declared.ast.Pat.{Pat}
use Rattle.es_ast.specs.declared.ast.Pat.TheVariants as vPat
use Rattle.es_ast.specs.declared.ast.Prop.TheVariants as vProp
use Rattle.es_ast.specs.declared.ast.Stmt.{Stmt}
use Rattle.es_ast.specs.declared.ast.Param.{Param}
use Rattle.es_lowering.specs.Value.{Value, absent, nil, more, token, node, given, part, group, first_of, behind, optional, option_list, is_there, turns, expr_at, pat_at, stmt_at, block_at, param_at, params_at, pat_prop_at, member_at, key_at}
use Rattle.es_lowering.specs.Texts.{span_of, ident_of, token_at, kind_at, ident_at, private_at, str_at, numeric_of, numeric_at, own_name_at}
use Rattle.es_lowering.specs.Operators.{listed, accessor_kinds}
use Rattle.es_lowering.specs.Expressions.{elements}
use Rattle.es_lowering.specs.Patterns.{ident_pat, name_pattern, array_pattern, object_pattern, rest_pattern, default_pattern, rest_property, with_default, key_pattern, name_property}
use Rattle.es_lowering.specs.Functions.{plain, param_of, default_parameter, rest_at, parameters, signature, function_of, function, method_at, block_or, body_of, arrow_of, name_param, name_arrow, parenthesized_arrow, word_key, str_key, number_key, computed_key, private_key, spread_property, shorthand, key_value, method_property, accessor_property}
use Rattle.es_lowering.specs.Classes.{class_, modified, static_block, method_member, accessor_member, field_member}
use Rattle.es_law_sites.proofs.ranges.Cuts.{Each, Opt, ExprCuts, PatCuts, PatPropCuts, PropCuts, StmtCuts, ParamCuts, FunctionCuts, ClassCuts, MemberCuts, StrCuts, LitCuts, expr_Lit_cuts, class_cuts, function_cuts, param_cuts}
use Rattle.es_law_sites.proofs.ranges.Forms.{pat_Ident_cuts, pat_Hole_cuts, pat_Array_cuts, pat_Object_cuts, pat_Rest_cuts, pat_Assign_cuts, object_pat_prop_KeyValue_cuts, object_pat_prop_Assign_cuts, object_pat_prop_Rest_cuts, prop_Spread_cuts, prop_Shorthand_cuts, prop_KeyValue_cuts, prop_Method_cuts, expr_Ident_cuts, expr_PrivateName_cuts, expr_Arrow_cuts, stmt_Block_cuts, stmt_Expr_cuts, class_member_StaticBlock_cuts, class_member_Method_cuts, class_member_Prop_cuts}
use Rattle.es_law_sites.proofs.ranges.Fine.{KeyCuts, Fine, given_fine, given_any, map_fine, map_any, each_both, listed_fine, part_fine, group_fine, optional_fine, turns_fine, expr_fine, pat_fine, stmt_fine, block_fine, param_fine, params_fine, pat_prop_fine, member_fine, key_fine}
use Rattle.es_law_sites.proofs.ranges.Exprs.{elements_cuts, numeric_cuts}

module _ (x : List ℕ) (ts : List Token) where
  -- ---- patterns
  pub name_pattern_cuts : (p : Value) → Opt (PatCuts x) (name_pattern x ts p)
  unfolding name_pattern
  name_pattern_cuts p =
      map_any (PatCuts x) (token_at ts p 0) (ident_pat x) (λ t. pat_Ident_cuts x (ident_of x t) None t.range)

  pub array_pattern_cuts : (from : ℕ) (r : Range) (p : Value) → Fine x p → Opt (PatCuts x) (array_pattern ts from r p)
  unfolding array_pattern
  array_pattern_cuts from r p fine =
      map_fine (Each (PatCuts x)) (PatCuts x) (elements vPat.Hole pat_at ts (from + 1) (group p 0)) _
      (elements_cuts x ts (PatCuts x) vPat.Hole pat_at (pat_Hole_cuts x) (λ v here. pat_fine x v 0 here) (from + 1)
      (group p 0) (group_fine x p 0 fine)) (λ elems f. pat_Array_cuts x elems false None r f)

  pub object_pattern_cuts : (r : Range) (p : Value) → Fine x p → Opt (PatCuts x) (object_pattern r p)
  unfolding object_pattern
  object_pattern_cuts r p fine =
      map_fine (Each (PatPropCuts x)) (PatCuts x) (turns (λ turn. pat_prop_at turn 0) (group p 0)) _
      (turns_fine x (PatPropCuts x) (λ turn. pat_prop_at turn 0) (λ turn here. pat_prop_fine x turn 0 here) (group p 0)
      (group_fine x p 0 fine)) (λ props f. pat_Object_cuts x props false None r f)

  pub rest_pattern_cuts : (r : Range) (p : Value) → Fine x p → Opt (PatCuts x) (rest_pattern r p)
  unfolding rest_pattern
  rest_pattern_cuts r p fine =
      map_fine (PatCuts x) (PatCuts x) (pat_at p 0) _ (pat_fine x p 0 fine) (λ arg f. pat_Rest_cuts x arg None r f)

  pub default_pattern_cuts : (r : Range) (p : Value) → Fine x p → Opt (PatCuts x) (default_pattern r p)
  unfolding default_pattern
  default_pattern_cuts r p fine =
      given_fine (PatCuts x) (PatCuts x) (pat_at p 0) _ (pat_fine x p 0 fine) (λ left f.
      given_fine (ExprCuts x) (PatCuts x) (expr_at p 1) _ (expr_fine x p 1 fine) (λ right g.
      pat_Assign_cuts x left right r f g))

  pub rest_property_cuts : (r : Range) (p : Value) → Fine x p → Opt (PatPropCuts x) (rest_property r p)
  unfolding rest_property
  rest_property_cuts r p fine =
      map_fine (PatCuts x) (PatPropCuts x) (pat_at p 0) _ (pat_fine x p 0 fine) (λ arg f.
      object_pat_prop_Rest_cuts x arg r f)

  pub default_cuts : (r : Range) (pat : Pat) (value : Option Expr) → PatCuts x pat → Opt (ExprCuts x) value
      → PatCuts x (with_default r pat value)
  default_cuts r pat (Some value) f g = pat_Assign_cuts x pat value r f g
  default_cuts r pat None f g = f

  pub key_pattern_cuts : (r : Range) (p : Value) → Fine x p → Opt (PatPropCuts x) (key_pattern ts r p)
  unfolding key_pattern
  key_pattern_cuts r p fine =
      given_fine (KeyCuts x) (PatPropCuts x) (key_at p 0) _ (key_fine x p 0 fine) (λ key f.
      given_fine (PatCuts x) (PatPropCuts x) (pat_at p 1) _ (pat_fine x p 1 fine) (λ pat g.
      given_fine (Opt (ExprCuts x)) (PatPropCuts x) (optional expr_at (group p 2)) _
      (optional_fine x (ExprCuts x) expr_at (λ v here. expr_fine x v 0 here) (group p 2) (group_fine x p 2 fine))
      (λ value h.
      object_pat_prop_KeyValue_cuts x key.0 key.1 _ r f
      (default_cuts (span_of ts (first_of (part p 1)) (behind (part (group p 2) 0))) pat value g h))))

  pub name_property_cuts : (r : Range) (p : Value) → Fine x p → Opt (PatPropCuts x) (name_property x ts r p)
  unfolding name_property
  name_property_cuts r p fine =
      given_any (PatPropCuts x) (ident_at x ts p 0) _ (λ key.
      given_fine (Opt (ExprCuts x)) (PatPropCuts x) (optional expr_at (group p 1)) _
      (optional_fine x (ExprCuts x) expr_at (λ v here. expr_fine x v 0 here) (group p 1) (group_fine x p 1 fine))
      (λ value h.
      object_pat_prop_Assign_cuts x key value r h))

  -- ---- parameters
  pub param_of_cuts : (r : Range) (pat : Pat) → PatCuts x pat → ParamCuts x (param_of r pat)
  param_of_cuts r pat f = param_cuts x (record { modifiers = plain; pat = pat; span = r }) f

  pub default_parameter_cuts : (r : Range) (p : Value) → Fine x p → Opt (ParamCuts x) (default_parameter r p)
  unfolding default_parameter
  default_parameter_cuts r p fine =
      given_fine (PatCuts x) (ParamCuts x) (pat_at p 0) _ (pat_fine x p 0 fine) (λ left f.
      given_fine (ExprCuts x) (ParamCuts x) (expr_at p 1) _ (expr_fine x p 1 fine) (λ right g.
      param_of_cuts r (vPat.Assign left right r) (pat_Assign_cuts x left right r f g)))

  rest_cuts : (p : Value) → Fine x p → Opt (ParamCuts x) (rest_at ts p 0)
  rest_cuts p fine =
      map_fine (PatCuts x) (ParamCuts x) (pat_at p 0) _ (pat_fine x p 0 fine) (λ pat f.
      param_of_cuts (span_of ts (first_of (part p 0) - 1) (behind (part p 0)))
      (vPat.Rest pat None (span_of ts (first_of (part p 0) - 1) (behind (part p 0))))
      (pat_Rest_cuts x pat None (span_of ts (first_of (part p 0) - 1) (behind (part p 0))) f))

  pub parameters_cuts : (p : Value) → Fine x p → Opt (Each (ParamCuts x)) (parameters ts p)
  unfolding parameters
  parameters_cuts p fine =
      given_fine (Each (ParamCuts x)) (Each (ParamCuts x)) (turns (λ turn. param_at turn 0) (group p 0)) _
      (turns_fine x (ParamCuts x) (λ turn. param_at turn 0) (λ turn here. param_fine x turn 0 here) (group p 0)
      (group_fine x p 0 fine)) (λ all f.
      given_fine (Opt (ParamCuts x)) (Each (ParamCuts x)) (optional (rest_at ts) (group p 1)) _
      (optional_fine x (ParamCuts x) (rest_at ts) rest_cuts (group p 1) (group_fine x p 1 fine)) (λ rest g.
      each_both (ParamCuts x) all (option_list rest) f (listed_fine (ParamCuts x) rest g)))

  pub signature_cuts : (p : Value) → Fine x p → Opt (Each (ParamCuts x)) (signature p)
  unfolding signature
  signature_cuts p fine = params_fine x p 0 fine

  -- ---- functions
  function_of_cuts : (is_async is_generator : Bool) (r : Range) (name : Option Ident) (params : List Param)
      (body : Stmt)
      → Each (ParamCuts x) params → StmtCuts x body
      → FunctionCuts x (function_of is_async is_generator r name params body)
  function_of_cuts is_async is_generator r name params body f g =
      function_cuts x (record {
        ident = name;
        is_async = is_async;
        is_generator = is_generator;
        type_params = None;
        params = params;
        return_type = None;
        body = Some body;
        span = r;
      }) f g

  pub function_made_cuts : (is_async : Bool) (r : Range) (p : Value) → Fine x p
      → Opt (FunctionCuts x) (function x ts is_async r p)
  unfolding function
  function_made_cuts is_async r p fine =
      given_any (FunctionCuts x) (own_name_at x ts p 1) _ (λ name.
      given_fine (Each (ParamCuts x)) (FunctionCuts x) (params_at p 2) _ (params_fine x p 2 fine) (λ params f.
      given_fine (StmtCuts x) (FunctionCuts x) (stmt_at p 3) _ (stmt_fine x p 3 fine) (λ body g.
      function_of_cuts is_async (is_there (group p 0)) r name params body f g)))

  pub method_at_cuts : (is_async is_generator : Bool) (p : Value) (n : ℕ) → Fine x p
      → Opt (FunctionCuts x) (method_at ts is_async is_generator p n)
  unfolding method_at
  method_at_cuts is_async is_generator p n fine =
      given_fine (Each (ParamCuts x)) (FunctionCuts x) (params_at p n) _ (params_fine x p n fine) (λ params f.
      given_fine (StmtCuts x) (FunctionCuts x) (stmt_at p (n + 1)) _ (stmt_fine x p (n + 1) fine) (λ body g.
      function_of_cuts is_async is_generator (span_of ts (first_of (part p n)) (behind (part p (n + 1)))) None params
      body
      f g))

  -- ---- arrows
  block_or_cuts : (r : Range) (block : Option (List Stmt)) (e : Option Expr) → Opt (Each (StmtCuts x)) block
      → Opt (ExprCuts x) e → Opt (StmtCuts x) (block_or r block e)
  block_or_cuts r (Some stmts) e f g = stmt_Block_cuts x stmts r f
  block_or_cuts r None e f g = map_fine (ExprCuts x) (StmtCuts x) e _ g (λ e h. stmt_Expr_cuts x e r h)

  pub body_of_cuts : (v : Value) → Fine x v → Opt (StmtCuts x) (body_of ts v)
  body_of_cuts (node from to m) fine = block_or_cuts (span_of ts from to) m.block m.expr fine.block fine.expr
  body_of_cuts absent fine = tt
  body_of_cuts nil fine = tt
  body_of_cuts (more v vs) fine = tt
  body_of_cuts (token n) fine = tt

  arrow_cuts : (is_async : Bool) (r : Range) (params : List Param) (body : Stmt) → Each (ParamCuts x) params
      → StmtCuts x body → ExprCuts x (arrow_of is_async r params body)
  arrow_cuts is_async r params body f g =
      expr_Arrow_cuts x (function_of is_async false r None params body)
      (function_of_cuts is_async false r None params body f g)

  pub name_arrow_cuts : (is_async : Bool) (r : Range) (p : Value) → Fine x p
      → Opt (ExprCuts x) (name_arrow x ts is_async r p)
  unfolding name_arrow
  name_arrow_cuts is_async r p fine =
      given_any (ExprCuts x) (token_at ts p 0) _ (λ t.
      given_fine (StmtCuts x) (ExprCuts x) (body_of ts (part (group p 1) 0)) _
      (body_of_cuts (part (group p 1) 0) (part_fine x (group p 1) 0 (group_fine x p 1 fine))) (λ body g.
      arrow_cuts is_async r (name_param x t ∷ []) body (
        param_of_cuts t.range (vPat.Ident (ident_of x t) None t.range) (pat_Ident_cuts x (ident_of x t) None t.range),
        tt,
      ) g))

  pub parenthesized_arrow_cuts : (is_async : Bool) (r : Range) (p : Value) → Fine x p
      → Opt (ExprCuts x) (parenthesized_arrow ts is_async r p)
  unfolding parenthesized_arrow
  parenthesized_arrow_cuts is_async r p fine =
      given_fine (Each (ParamCuts x)) (ExprCuts x) (params_at p 0) _ (params_fine x p 0 fine) (λ params f.
      given_fine (StmtCuts x) (ExprCuts x) (body_of ts (part (group p 1) 0)) _
      (body_of_cuts (part (group p 1) 0) (part_fine x (group p 1) 0 (group_fine x p 1 fine))) (λ body g.
      arrow_cuts is_async r params body f g))

  -- ---- keys
  pub word_key_cuts : (p : Value) → Opt (KeyCuts x) (word_key x ts p)
  unfolding word_key
  word_key_cuts p = map_any (KeyCuts x) (ident_at x ts p 0) _ (λ name. expr_Ident_cuts x name)

  pub str_key_cuts : (p : Value) → Opt (StrCuts x) (str_at x ts p 0) → Opt (KeyCuts x) (str_key x ts p)
  unfolding str_key
  str_key_cuts p there =
      map_fine (StrCuts x) (KeyCuts x) (str_at x ts p 0) _ there (λ s f. expr_Lit_cuts x (vLit.Str s) f)

  pub number_key_cuts : (p : Value) → Opt (KeyCuts x) (number_key x ts p)
  unfolding number_key
  number_key_cuts p =
      map_fine (LitCuts x) (KeyCuts x) (numeric_at x ts p 0) _
      (given_any (LitCuts x) (token_at ts p 0) (numeric_of x) (numeric_cuts x ts)) (λ lit f. expr_Lit_cuts x lit f)

  pub computed_key_cuts : (p : Value) → Fine x p → Opt (KeyCuts x) (computed_key p)
  unfolding computed_key
  computed_key_cuts p fine = map_fine (ExprCuts x) (KeyCuts x) (expr_at p 0) _ (expr_fine x p 0 fine) (λ e f. f)

  pub private_key_cuts : (p : Value) → Opt (KeyCuts x) (private_key x ts p)
  unfolding private_key
  private_key_cuts p = map_any (KeyCuts x) (private_at x ts p 0) _ (λ name. expr_PrivateName_cuts x name)

  -- ---- properties of objects
  pub spread_property_cuts : (r : Range) (p : Value) → Fine x p → Opt (PropCuts x) (spread_property r p)
  unfolding spread_property
  spread_property_cuts r p fine =
      map_fine (ExprCuts x) (PropCuts x) (expr_at p 0) _ (expr_fine x p 0 fine) (λ e f. prop_Spread_cuts x e r f)

  pub shorthand_cuts : (p : Value) → Opt (PropCuts x) (shorthand x ts p)
  unfolding shorthand
  shorthand_cuts p = map_any (PropCuts x) (ident_at x ts p 0) vProp.Shorthand (prop_Shorthand_cuts x)

  pub key_value_cuts : (r : Range) (p : Value) → Fine x p → Opt (PropCuts x) (key_value r p)
  unfolding key_value
  key_value_cuts r p fine =
      given_fine (KeyCuts x) (PropCuts x) (key_at p 0) _ (key_fine x p 0 fine) (λ key f.
      given_fine (ExprCuts x) (PropCuts x) (expr_at p 1) _ (expr_fine x p 1 fine) (λ value g.
      prop_KeyValue_cuts x key.0 key.1 value r f g))

  pub method_property_cuts : (kind : MethodKind) (is_async is_generator : Bool) (r : Range) (p : Value) (n : ℕ)
      → Fine x p → Opt (PropCuts x) (method_property ts kind is_async is_generator r p n)
  unfolding method_property
  method_property_cuts kind is_async is_generator r p n fine =
      given_fine (KeyCuts x) (PropCuts x) (key_at p n) _ (key_fine x p n fine) (λ key f.
      given_fine (FunctionCuts x) (PropCuts x) (method_at ts is_async is_generator p (n + 1)) _
      (method_at_cuts is_async is_generator p (n + 1) fine) (λ function g.
      prop_Method_cuts x kind key.0 key.1 function r f g))

  pub accessor_property_cuts : (r : Range) (p : Value) → Fine x p → Opt (PropCuts x) (accessor_property ts r p)
  unfolding accessor_property
  accessor_property_cuts r p fine =
      given_any (PropCuts x) (given (kind_at ts p 0) (listed accessor_kinds)) _ (λ kind.
      method_property_cuts kind false false r p 1 fine)

  -- ---- classes
  pub class_made_cuts : (r : Range) (p : Value) → Fine x p → Opt (ClassCuts x) (class_ x ts r p)
  unfolding class_
  class_made_cuts r p fine =
      given_any (ClassCuts x) (own_name_at x ts p 0) _ (λ name.
      given_fine (Opt (ExprCuts x)) (ClassCuts x) (optional expr_at (group p 1)) _
      (optional_fine x (ExprCuts x) expr_at (λ v here. expr_fine x v 0 here) (group p 1) (group_fine x p 1 fine))
      (λ super_class f.
      given_fine (Each (MemberCuts x)) (ClassCuts x) (turns (λ turn. member_at turn 0) (group p 2)) _
      (turns_fine x (MemberCuts x) (λ turn. member_at turn 0) (λ turn here. member_fine x turn 0 here) (group p 2)
      (group_fine x p 2 fine)) (λ members g.
      class_cuts x (record {
        ident = name;
        is_abstract = false;
        type_params = None;
        super_class = super_class;
        super_type_args = None;
        implements = None;
        body = members;
        span = r;
      }) f g)))

  pub static_block_cuts : (r : Range) (p : Value) → Fine x p → Opt (MemberCuts x) (static_block r p)
  unfolding static_block
  static_block_cuts r p fine =
      map_fine (Each (StmtCuts x)) (MemberCuts x) (block_at p 0) _ (block_fine x p 0 fine) (λ stmts f.
      class_member_StaticBlock_cuts x stmts r f)

  pub method_member_cuts : (kind : MethodKind) (is_async is_generator : Bool) (r : Range) (p : Value) (n : ℕ)
      → Fine x p → Opt (MemberCuts x) (method_member ts kind is_async is_generator r p n)
  unfolding method_member
  method_member_cuts kind is_async is_generator r p n fine =
      given_fine (KeyCuts x) (MemberCuts x) (key_at p n) _ (key_fine x p n fine) (λ key f.
      given_fine (FunctionCuts x) (MemberCuts x) (method_at ts is_async is_generator p (n + 1)) _
      (method_at_cuts is_async is_generator p (n + 1) fine) (λ function g.
      class_member_Method_cuts x (modified (is_there (group p 0)) false) kind key.0 key.1 false function r f g))

  pub accessor_member_cuts : (r : Range) (p : Value) → Fine x p → Opt (MemberCuts x) (accessor_member ts r p)
  unfolding accessor_member
  accessor_member_cuts r p fine =
      given_any (MemberCuts x) (given (kind_at ts p 1) (listed accessor_kinds)) _ (λ kind.
      method_member_cuts kind false false r p 2 fine)

  pub field_member_cuts : (accessor : Bool) (r : Range) (p : Value) → Fine x p
      → Opt (MemberCuts x) (field_member accessor r p)
  unfolding field_member
  field_member_cuts accessor r p fine =
      given_fine (KeyCuts x) (MemberCuts x) (key_at p 1) _ (key_fine x p 1 fine) (λ key f.
      given_fine (Opt (ExprCuts x)) (MemberCuts x) (optional expr_at (group p 2)) _
      (optional_fine x (ExprCuts x) expr_at (λ v here. expr_fine x v 0 here) (group p 2) (group_fine x p 2 fine))
      (λ value g.
      class_member_Prop_cuts x (modified (is_there (group p 0)) accessor) key.0 key.1 false false None value r f g))
