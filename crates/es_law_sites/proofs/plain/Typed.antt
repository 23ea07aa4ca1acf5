-- The sites of what TypeScript adds.
use Rattle.std.specs.Prelude.{Bool, true, false, List, [], ◌++◌, Option, Some, None, option_map, if◌then◌else◌}
use Rattle.std.specs.List.{flat_map}
use Rattle.std.proofs.Common.{◌≡◌, ℕ, ◌+◌, refl, sym, ap, ◌∙◌, subst}
use Rattle.std.proofs.lemmas.List.{append-nil}
use Rattle.base.specs.declared.range.Range.{Range}
use Rattle.es_token.specs.declared.token.Token.{Token}
use Rattle.es_token.specs.declared.token.TokenKind.{TokenKind}
use Rattle.es_token.specs.declared.token.TokenKind.TheVariants as k
use Rattle.grammar_theory.specs.Key.{same_kind}
use Rattle.es_ast.specs.declared.ts.leaf.MethodKind.{MethodKind}
use Rattle.es_ast.specs.declared.ts.ts.TsPart.{TsPart}
use Rattle.es_ast.specs.declared.ts.ts.TsPart.TheVariants as vPart
use Rattle.es_ast.specs.declared.ast.Expr.{Expr}
use Rattle.es_ast.specs.declared.ast.Expr.TheVariants as vExpr
use Rattle.es_ast.specs.declared.ast.Pat.{Pat}
use Rattle.es_ast.specs.declared.ast.Prop.TheVariants as vProp
use Rattle.es_ast.specs.declared.ast.Stmt.{Stmt}
use Rattle.es_ast.specs.declared.ast.Stmt.TheVariants as vStmt
use Rattle.es_ast.specs.declared.ast.Function.{Function}
use Rattle.es_ast.specs.declared.ast.TsEnumMember.{roll-TsEnumMember, out-roll-TsEnumMember}
use Rattle.es_ast.specs.declared.ast.ClassMember.TheOpen.{Expr-F, TsEnumMember-F}
use Rattle.es_grammar.specs.declared.rows.NodeKind.{NodeKind}
use Rattle.es_grammar.specs.declared.rows.NodeKind.TheVariants as l
use Rattle.es_site.specs.Parts.{Whole}
use Rattle.es_site.specs.Sites.{Found, if_some}
use Rattle.es_site.specs.Sites.{sites_of_class_member, sites_of_decl, sites_of_expr, sites_of_module_item, sites_of_object_pat_prop, sites_of_pat, sites_of_prop, sites_of_stmt, sites_of_class, sites_of_function, sites_of_param, sites_of_ts_enum_member, sites_of_var_declarator}
use Rattle.es_site.proofs.Equations.{class_member_Method, class_member_Prop, class_member_TsIndexSignature, decl_Var, decl_TsInterface, decl_TsTypeAlias, decl_TsEnum, decl_TsNamespace, decl_TsModule, decl_TsGlobal, expr_Call, expr_TaggedTpl, expr_TsNonNull, expr_Member, expr_Index, expr_New, expr_Bin, expr_TsAs, expr_TsSatisfies, expr_TsConstAssertion, pat_Ident, pat_Array, pat_Object, pat_This, pat_Rest, prop_Method, ts_enum_member_parts}
use Rattle.es_lowering.specs.Value.{Typed, Value, Signature, given, typed}
use Rattle.es_lowering.specs.Value as v
use Rattle.es_lowering.specs.Texts.{token_of, token_at, kind_at, ident_at, str_at, property_of, own_name_at}
use Rattle.es_lowering.specs.Operators.{listed, variable_kinds, accessor_kinds, binary_between}
use Rattle.es_lowering.specs.Functions.{plain, body_of}
use Rattle.es_lowering.specs.Expressions.{member_of, index_of}
use Rattle.es_lowering.specs.TypedParts as d
use Rattle.es_lowering.specs.TypedFunctions as f
use Rattle.es_lowering.specs.TypedExpressions as e
use Rattle.es_lowering.specs.TypedStatements as s
use Rattle.es_law_sites.proofs.ranges.Cuts.{Opt}
use Rattle.es_law_sites.specs.plain.Part.{Part, absent, nil, more, token, node, part, group, found, at, inside, may, turns}
use Rattle.es_law_sites.specs.plain.Own as o
use Rattle.es_law_sites.specs.plain.Own.{own}
use Rattle.es_law_sites.proofs.plain.Given.{given_fine, given_any, map_fine, map_any}
use Rattle.es_law_sites.proofs.plain.Is.{Of, PostIs, ExprIs, PropIs, MarkedIs, DeclarableIs, Is, none, nothing, both, same, made, part_is, group_is, key_sites, head_sites, variables_sites, signature_sites, expr_sites, expr_in, stmt_in, item_in, pat_in, args_in, variables_in, param_in, params_in, pat_prop_in, member_in, key_in, signature_in, marked_in, declarable_in, turns_in, may_in, list_in}
use Rattle.es_law_sites.proofs.plain.Exprs.{two, Ex, expr_by}
use Rattle.es_law_sites.proofs.plain.Calls.{post_by}
use Rattle.es_law_sites.proofs.plain.Stmts.{St, declarator_parts, try_parts, final_parts}
use Rattle.es_law_sites.proofs.plain.Patterns.{function_is, class_is, param_is, with_rest, default_is, body_is, array_elements_is}

member_parts : (it : Whole TsEnumMember-F)
    → sites_of_ts_enum_member (roll-TsEnumMember it) ≡ sites_of_expr it.id ++ if_some sites_of_expr it.init
member_parts it =
    let P : Whole TsEnumMember-F → Type 0 = λ w. sites_of_ts_enum_member (roll-TsEnumMember it)
    ≡ sites_of_expr w.id ++ if_some sites_of_expr w.init in
    subst P (out-roll-TsEnumMember it) (ts_enum_member_parts [] (roll-TsEnumMember it))

module _ (x : List ℕ) (ts : List Token) where
  marked_by_is : (a : Found) (pat : Option (Bool → Option TsPart → Range → Pat)) (mark : Bool) (ty : Option TsPart)
      (r : Range)
      → Opt (MarkedIs a) pat → Opt (Of sites_of_pat a) (d.marked_by pat mark ty r)
  marked_by_is a (Some pat) mark ty r g = g mark ty r
  marked_by_is a None mark ty r g = tt

  annotated_is : (n m : ℕ) (p : Value) (q : Part) → Is x ts p q
      → Opt (Of sites_of_pat (at q n)) (d.annotated_at ts p n m)
  annotated_is n m p q h =
      given_any _ (d.annotation_at p m) _
      (λ ty. marked_by_is (at q n) (v.marked_at p n) false ty _ (marked_in x ts n p q h))

  tailed_is : (n : ℕ) (p : Value) (q : Part) → Is x ts p q
      → Opt (Of sites_of_pat (at q n ++ may q (n + 3))) (d.tailed_at ts p n)
  tailed_is n p q h =
      given_any _ (d.annotation_at p (n + 2)) _ (λ ty.
      given_fine (Of sites_of_pat (at q n)) _ (d.marked_by (v.marked_at p n) _ ty _) _
      (marked_by_is (at q n) (v.marked_at p n) _ ty _ (marked_in x ts n p q h)) (λ pat g.
      given_fine (Of (if_some sites_of_expr) (may q (n + 3))) _ (v.optional v.expr_at (v.group p (n + 3))) _
      (may_in x ts sites_of_expr v.expr_at (λ a b i. expr_in x ts 0 a b i) (n + 3) p q h) (λ value j.
      default_is _ pat value _ _ g j)))

  -- a body, or none
  body_there : (p : Value) (q : Part) → Is x ts p q → Opt (Of (if_some sites_of_stmt) (at q 0)) (d.body_in p)
  body_there p q none = refl
  body_there p q nothing = refl
  body_there p q (same n) = refl
  body_there p q (made from to m label c s h) = refl
  body_there p q (both a b c s (made from to m label t u h) j) =
      map_fine (Of sites_of_stmt u) (Of (if_some sites_of_stmt) u) m.stmt Some h.stmt (λ it g. g)
  body_there p q (both a b c s none j) = refl
  body_there p q (both a b c s nothing j) = refl
  body_there p q (both a b c s (same n) j) = refl
  body_there p q (both a b c s (both g i k m n u) j) = refl

  items_is : (n : ℕ) (p : Value) (q : Part) → Is x ts p q
      → Opt (Of (flat_map sites_of_module_item) (turns q n 0)) (s.items_of (v.group p n))
  items_is n p q h = list_in x ts sites_of_module_item v.item_at (λ a b i. item_in x ts 0 a b i) n p q h

  -- calls behind `?.` or not
  typed_call_is : (there : Bool) (r : Range) (p : Value) (q : Part) → Is x ts p q
      → Opt (PostIs (at q 1)) (e.typed_call there r p)
  typed_call_is there r p q h =
      given_any _ (d.args_part_at p 0) _ (λ type_args.
      given_fine (Of (flat_map sites_of_expr) (at q 1)) _ (v.args_at p 1) _ (args_in x ts 1 p q h) (λ args g.
      post_by x ts r p q h (at q 1) (e.typed_call_of there r type_args args)
      (λ start it. Expr-F.Call it there type_args args _)
      (λ start it. vExpr.rolls-Call it there type_args args _)
      (λ start it. expr_Call [] it there type_args args _ ∙ ap (λ k. sites_of_expr it ++ k) g)
      (λ start it. refl) (λ start it. refl) (λ start it. refl)))

  inner_is : (r : Range) (p : Value) (q : Part) → Is x ts p q
      → Opt (PostIs (o.typed_args x ts q)) (e.typed_optional_inner x ts r p)
  inner_is r p q none = typed_call_is true r v.absent absent none
  inner_is r p q nothing = typed_call_is true r v.nil nil nothing
  inner_is r p q (same n) = typed_call_is true r (v.token n) (token n) (same n)
  inner_is r p q (made from to m label c s h) =
      typed_call_is true r (v.node from to m) (node label c s) (made from to m label c s h)
  inner_is r p q (both a b c s none j) =
      typed_call_is true r (v.more v.absent c) (more absent s) (both v.absent absent c s none j)
  inner_is r p q (both a b c s nothing j) =
      typed_call_is true r (v.more v.nil c) (more nil s) (both v.nil nil c s nothing j)
  inner_is r p q (both a b c s (made from to m label t u h) j) =
      typed_call_is true r (v.more (v.node from to m) c) (more (node label t u) s)
      (both (v.node from to m) (node label t u) c s (made from to m label t u h) j)
  inner_is r p q (both a b c s (both g i m n u w) j) =
      typed_call_is true r (v.more (v.more g m) c) (more (more i n) s)
      (both (v.more g m) (more i n) c s (both g i m n u w) j)
  inner_is r p q (both a b c s (same n) j) =
      map_any (PostIs []) (given (token_of ts (v.token n)) (property_of x)) (member_of true r) (λ m.
      post_by x ts r (v.token n) (token n) (same n) [] (member_of true r m) (λ start e. Expr-F.Member e true m.0 m.1 _)
      (λ start e. vExpr.rolls-Member e true m.0 m.1 _)
      (λ start e. expr_Member [] e true m.0 m.1 _ ∙ sym (append-nil (sites_of_expr e)))
      (λ start e. refl) (λ start e. refl) (λ start e. refl))

  optional_is : (r : Range) (p : Value) (q : Part) → Is x ts p q
      → Opt (PostIs (o.typed_inner x ts q)) (e.typed_optional_of x ts r p)
  optional_is r p q none = inner_is r v.nil nil nothing
  optional_is r p q nothing = inner_is r v.nil nil nothing
  optional_is r p q (both a b c d h i) = inner_is r (v.more a c) (more b d) (both a b c d h i)
  optional_is r p q (same n) = inner_is r v.nil nil nothing
  optional_is r p q (made from to m label c s h) =
      map_fine (Of sites_of_expr s) (PostIs s) m.expr (index_of true r) (expr_sites x ts label c s m.expr h.expr)
      (λ i f.
      post_by x ts r (v.node from to m) (node label c s) (made from to m label c s h) s (index_of true r i)
      (λ start e. Expr-F.Index e true i _)
      (λ start e. vExpr.rolls-Index e true i _)
      (λ start e. expr_Index [] e true i _ ∙ ap (λ s. sites_of_expr e ++ s) f)
      (λ start e. refl) (λ start e. refl) (λ start e. refl))

  -- ---- `<a>b`
  before_is : (q : Part) (r : Range) (it : Expr) (s : Found) → sites_of_expr it ≡ s → (a : Value)
      → Opt (ExprIs x ts l.TypeAssertion q s) (e.asserted_by r it k.AsWord a)
  before_is q r it s g (v.token n) =
      expr_by x ts l.TypeAssertion q _ (vExpr.TsConstAssertion it r) (Expr-F.TsConstAssertion it r)
      (vExpr.rolls-TsConstAssertion it r) (expr_TsConstAssertion [] it r ∙ g) refl refl refl
  before_is q r it s g (v.node from to m) =
      map_any (ExprIs x ts l.TypeAssertion q s) m.ts_type _ (λ ty.
      expr_by x ts l.TypeAssertion q _ (vExpr.TsAs it (Some (vPart.TypeAnn ty)) r) (Expr-F.TsAs it (Some (vPart.TypeAnn ty)) r)
      (vExpr.rolls-TsAs it (Some (vPart.TypeAnn ty)) r) (expr_TsAs [] it (Some (vPart.TypeAnn ty)) r ∙ g) refl refl refl)
  before_is q r it s g v.absent = tt
  before_is q r it s g v.nil = tt
  before_is q r it s g (v.more a b) = tt

  -- ---- `as` and `satisfies`
  Tb : Part → Found → Expr → Type 0
  Tb q s it = ExprIs x ts l.TypedBinary q s it

  asserted_is : (q : Part) (r : Range) (left : Expr) (s : Found) → sites_of_expr left ≡ s
      → (kind : TokenKind) (a : Value)
      → Opt (Tb q (s ++ [])) (e.asserted_by r left kind a)
  unfolding Tb
  asserted_is q r left s g kind (v.token n) =
      expr_by x ts l.TypedBinary q _ (vExpr.TsConstAssertion left r) (Expr-F.TsConstAssertion left r)
      (vExpr.rolls-TsConstAssertion left r) (expr_TsConstAssertion [] left r ∙ g ∙ sym (append-nil s)) refl refl refl
  asserted_is q r left s g kind (v.node from to m) =
      map_any (Tb q (s ++ [])) m.ts_type _ (λ ty. choose (same_kind kind k.AsWord) (Some (vPart.TypeAnn ty)))
    where
      choose : (b : Bool) (ty : Option TsPart)
          → Tb q (s ++ []) (if b then vExpr.TsAs left ty r else vExpr.TsSatisfies left ty r)
      choose true ty =
          expr_by x ts l.TypedBinary q _ (vExpr.TsAs left ty r) (Expr-F.TsAs left ty r) (vExpr.rolls-TsAs left ty r)
          (expr_TsAs [] left ty r ∙ g ∙ sym (append-nil s)) refl refl refl
      choose false ty =
          expr_by x ts l.TypedBinary q _ (vExpr.TsSatisfies left ty r) (Expr-F.TsSatisfies left ty r)
          (vExpr.rolls-TsSatisfies left ty r)
          (expr_TsSatisfies [] left ty r ∙ g ∙ sym (append-nil s)) refl refl refl
  asserted_is q r left s g kind v.absent = tt
  asserted_is q r left s g kind v.nil = tt
  asserted_is q r left s g kind (v.more a b) = tt

  operand_is : (q : Part) (r : Range) (left : Expr) (s : Found) → sites_of_expr left ≡ s
      → (from : ℕ) (a : Value) (b : Part)
      → Is x ts a b → (c : Value)
      → Opt (Tb q (s ++ at b 1)) (given (binary_between ts from (v.first_of c)) (λ op.
      given (v.expr_at a 1) (λ right. Some (vExpr.Bin op left right r))))
  unfolding Tb
  operand_is q r left s g from a b i c =
      given_any _ (binary_between ts from (v.first_of c)) _ (λ op.
      given_fine (Of sites_of_expr (at b 1)) _ (v.expr_at a 1) _ (expr_in x ts 1 a b i) (λ right j.
      expr_by x ts l.TypedBinary q _ (vExpr.Bin op left right r) (Expr-F.Bin op left right r)
      (vExpr.rolls-Bin op left right r) (expr_Bin [] op left right r ∙ two (λ k m. k ++ m) g j) refl refl refl))

  turned_is : (q : Part) (r : Range) (left : Expr) (s : Found) → sites_of_expr left ≡ s
      → (from : ℕ) (a : Value) (b : Part)
      → Is x ts a b → (c : Value) (e1 : Part) → Is x ts c e1
      → Opt (Tb q (s ++ o.operand x ts b e1)) (e.turned_by ts r left from a c)
  turned_is q r left s g from a b i c e1 (both m n t u j w) =
      given_any _ (kind_at ts a 0) _ (λ kind. asserted_is q r left s g kind m)
  turned_is q r left s g from a b i c e1 none = operand_is q r left s g from a b i v.absent
  turned_is q r left s g from a b i c e1 nothing = operand_is q r left s g from a b i v.nil
  turned_is q r left s g from a b i c e1 (same n) = operand_is q r left s g from a b i (v.token n)
  turned_is q r left s g from a b i c e1 (made f1 to m label t u w) =
      operand_is q r left s g from a b i (v.node f1 to m)

  -- ---- `try`
  caught_is : (p : Value) (q : Part) → Is x ts p q
      → Opt (Of (if_some sites_of_pat) (inside (λ g. at g 0) q)) (s.caught_in ts p)
  caught_is p q none = refl
  caught_is p q nothing = refl
  caught_is p q (same n) = refl
  caught_is p q (made from to m label c t h) = refl
  caught_is p q (both a b c t h j) =
      map_fine (Of sites_of_pat (at (more b t) 0)) (Of (if_some sites_of_pat) (at (more b t) 0))
      (d.annotated_at ts (v.more a c) 0 1) Some
      (annotated_is 0 1 (v.more a c) (more b t) (both a b c t h j)) (λ it g. g)

  caught_one : (r : Range) (block : Stmt) (a : Found) → sites_of_stmt block ≡ a → (v1 : Value) (b : Part) → Is x ts v1 b
      → Opt (St x ts (a ++ (may b 0 ++ at b 1 ++ may b 2)))
      (given (s.caught_in ts (v.group v1 0)) (λ param.
      given (v.stmt_at v1 1) (λ handler.
      given (v.optional v.stmt_at (v.group v1 2))
      (λ finalizer. Some (vStmt.Try block param (Some handler) finalizer r)))))
  caught_one r block a e v1 b i =
      let T = St x ts (a ++ (may b 0 ++ at b 1 ++ may b 2)) in
      given_fine (Of (if_some sites_of_pat) (may b 0)) T (s.caught_in ts (v.group v1 0)) _
      (caught_is (v.group v1 0) (group b 0) (group_is x ts v1 b 0 i)) (λ param f.
      given_fine (Of sites_of_stmt (at b 1)) T (v.stmt_at v1 1) _ (stmt_in x ts 1 v1 b i) (λ handler g.
      given_fine (Of (if_some sites_of_stmt) (may b 2)) T (v.optional v.stmt_at (v.group v1 2)) _
      (may_in x ts sites_of_stmt v.stmt_at (λ a b i. stmt_in x ts 0 a b i) 2 v1 b i) (λ finalizer j.
      try_parts x ts r block param handler finalizer a (may b 0) (at b 1) (may b 2) e f g j)))

  handled_is : (r : Range) (block : Stmt) (a : Found) → sites_of_stmt block ≡ a → (v1 : Value) (b : Part) → Is x ts v1 b
      → Opt (St x ts (a ++ o.handled x ts (inside (λ g. at g 0)) b)) (s.typed_handled ts r block v1)
  handled_is r block a e v1 b none = caught_one r block a e v.absent absent none
  handled_is r block a e v1 b nothing = caught_one r block a e v.nil nil nothing
  handled_is r block a e v1 b (same n) = caught_one r block a e (v.token n) (token n) (same n)
  handled_is r block a e v1 b (made from to m label c s i) =
      caught_one r block a e (v.node from to m) (node label c s) (made from to m label c s i)
  handled_is r block a e v1 b (both c f m s i nothing) =
      map_fine (Of sites_of_stmt (found f)) (St x ts (a ++ found f)) (v.stmt_at (v.more c v.nil) 0) _
      (stmt_in x ts 0 (v.more c v.nil) (more f nil) (both c f v.nil nil i nothing)) (λ finalizer g.
      final_parts x ts r block finalizer a (found f) e g)
  handled_is r block a e v1 b (both c f m s i none) =
      caught_one r block a e (v.more c v.absent) (more f absent) (both c f v.absent absent i none)
  handled_is r block a e v1 b (both c f m s i (same n)) =
      caught_one r block a e (v.more c (v.token n)) (more f (token n)) (both c f (v.token n) (token n) i (same n))
  handled_is r block a e v1 b (both c f m s i (both g k n u j t)) =
      caught_one r block a e (v.more c (v.more g n)) (more f (more k u))
      (both c f (v.more g n) (more k u) i (both g k n u j t))
  handled_is r block a e v1 b (both c f m s i (made from to n label t u j)) =
      caught_one r block a e (v.more c (v.node from to n)) (more f (node label t u))
      (both c f (v.node from to n) (node label t u) i (made from to n label t u j))

  module _ (r : Range) (p : Value) (q : Part) (h : Is x ts p q) where
    -- ---- patterns and parameters
    pub marked_name_is : Opt (MarkedIs []) (d.marked_name x ts p)
    unfolding d.marked_name
    marked_name_is = map_any (MarkedIs []) (ident_at x ts p 0) _ (λ id mark ty r. pat_Ident [] _ ty r)

    pub marked_array_is : (from : ℕ) → Opt (MarkedIs (own x ts l.ArrayPattern q)) (d.marked_array ts from p)
    unfolding d.marked_array
    marked_array_is from =
        map_fine (Of (flat_map sites_of_pat) (own x ts l.ArrayPattern q)) (MarkedIs (own x ts l.ArrayPattern q)) _ _
        (array_elements_is x ts r p q h from) (λ elems g mark ty r. pat_Array [] elems mark ty r ∙ g)

    pub marked_object_is : Opt (MarkedIs (turns q 0 0)) (d.marked_object p)
    unfolding d.marked_object
    marked_object_is =
        map_fine (Of (flat_map sites_of_object_pat_prop) (turns q 0 0)) (MarkedIs (turns q 0 0)) _ _
        (list_in x ts sites_of_object_pat_prop v.pat_prop_at (λ a b i. pat_prop_in x ts 0 a b i) 0 p q h)
        (λ props g mark ty r. pat_Object [] props mark ty r ∙ g)

    pub marked_parameter_is : Opt (Of sites_of_param (at q 0 ++ may q 3)) (d.marked_parameter ts r p)
    unfolding d.marked_parameter
    marked_parameter_is =
        map_fine (Of sites_of_pat (at q 0 ++ may q 3)) (Of sites_of_param (at q 0 ++ may q 3)) _ _ (tailed_is 0 p q h)
        (λ pat g. param_is _ ∙ g)

    pub property_parameter_is : Opt (Of sites_of_param (at q 1 ++ may q 4)) (d.property_parameter ts r p)
    unfolding d.property_parameter
    property_parameter_is =
        given_any _ (d.modifiers_in ts plain (v.group p 0)) _ (λ modifiers.
        map_fine (Of sites_of_pat (at q 1 ++ may q 4)) (Of sites_of_param (at q 1 ++ may q 4)) _ _ (tailed_is 1 p q h)
        (λ pat g. param_is _ ∙ g))

    pub this_parameter_is : Opt (Of sites_of_param (may q 3)) (d.this_parameter ts r p)
    unfolding d.this_parameter
    this_parameter_is =
        given_any _ (token_at ts p 0) _ (λ t.
        given_any _ (d.annotation_at p 2) _ (λ ty.
        given_fine (Of (if_some sites_of_expr) (may q 3)) _ (v.optional v.expr_at (v.group p 3)) _
        (may_in x ts sites_of_expr v.expr_at (λ a b i. expr_in x ts 0 a b i) 3 p q h) (λ value g.
        param_is _ ∙ default_is _ _ value [] _ (pat_This [] ty _) g)))

    pub typed_parameters_is : Opt (Of (flat_map sites_of_param) (turns q 0 0 ++ may q 1)) (d.typed_parameters ts p)
    unfolding d.typed_parameters
    typed_parameters_is =
        given_fine (Of (flat_map sites_of_param) (turns q 0 0)) _ (v.turns (λ turn. v.param_at turn 0) (v.group p 0)) _
        (list_in x ts sites_of_param v.param_at (λ a b i. param_in x ts 0 a b i) 0 p q h) (λ all g.
        given_fine (Of (if_some sites_of_param) (may q 1)) _ (v.optional (d.typed_rest_at ts) (v.group p 1)) _
        (may_in x ts sites_of_param (d.typed_rest_at ts)
        (λ a b i. given_fine (Of sites_of_pat (at b 0)) (Of sites_of_param (at b 0)) (v.pat_at a 0) _
        (pat_in x ts 0 a b i) (λ pat k.
        given_any _ (d.annotation_at a 1) _ (λ ty. param_is _ ∙ pat_Rest [] pat ty _ ∙ k))) 1 p q h) (λ last k.
        with_rest sites_of_param all last _ _ g k))

    pub typed_signature_is : Opt (Of signature_sites (at q 1)) (d.typed_signature p)
    unfolding d.typed_signature
    typed_signature_is =
        given_any _ (d.params_part_at p 0) _ (λ type_params.
        given_fine (Of (flat_map sites_of_param) (at q 1)) _ (v.params_at p 1) _ (params_in x ts 1 p q h) (λ params g.
        given_any _ (d.annotation_at p 2) _ (λ result. g)))

    -- ---- functions
    pub typed_function_is : (is_async : Bool)
        → Opt (Of sites_of_function (at q 2 ++ at (group q 3) 0)) (f.typed_function x ts is_async r p)
    unfolding f.typed_function
    typed_function_is is_async =
        given_any _ (own_name_at x ts p 1) _ (λ name.
        given_fine (Of signature_sites (at q 2)) _ (v.signature_at p 2) _ (signature_in x ts 2 p q h) (λ signature g.
        given_fine (Of (if_some sites_of_stmt) (at (group q 3) 0)) _ (d.body_in (v.group p 3)) _
        (body_there (v.group p 3) (group q 3) (group_is x ts p q 3 h)) (λ body k.
        function_is _ ∙ two (λ a b. a ++ b) g k)))

    pub typed_arrow_is : (label : NodeKind) (is_async : Bool)
        → ((it : Function) → sites_of_function it ≡ at q 1 ++ at (group q 3) 0 → Ex x ts label q (vExpr.Arrow it))
        → Opt (Ex x ts label q) (f.typed_arrow ts is_async r p)
    unfolding f.typed_arrow
    typed_arrow_is label is_async by =
        given_any _ (d.params_part_at p 0) _ (λ type_params.
        given_fine (Of (flat_map sites_of_param) (at q 1)) _ (v.params_at p 1) _ (params_in x ts 1 p q h) (λ params g.
        given_any _ (d.annotation_at p 2) _ (λ result.
        given_fine (Of sites_of_stmt (at (group q 3) 0)) _ (body_of ts (v.part (v.group p 3) 0)) _
        (body_is x ts (v.part (v.group p 3) 0) (part (group q 3) 0)
        (part_is x ts (v.group p 3) (group q 3) 0 (group_is x ts p q 3 h))) (λ body k.
        by _ (function_is _ ∙ two (λ a b. a ++ b) g k)))))

    pub typed_method_property_is : (label : NodeKind) (kind : MethodKind) (is_async is_generator : Bool) (n : ℕ)
        → ((k : MethodKind) (b : Bool) (key : Expr) (it : Function)
        → sites_of_prop (vProp.Method k b key it r) ≡ at (group q n) 0 ++ (at (group q n) 1 ++ at q (n + 1))
        → PropIs x ts label q (own x ts label q) (vProp.Method k b key it r))
        → Opt (PropIs x ts label q (own x ts label q)) (f.typed_method_property ts kind is_async is_generator r p n)
    unfolding f.typed_method_property
    typed_method_property_is label kind is_async is_generator n by =
        let i = group_is x ts p q n h in
        given_fine (Of key_sites (at (group q n) 0)) _ (v.key_at (v.group p n) 0) _
        (key_in x ts 0 (v.group p n) (group q n) i) (λ key g.
        given_fine (Of signature_sites (at (group q n) 1)) _ (v.signature_at (v.group p n) 1) _
        (signature_in x ts 1 (v.group p n) (group q n) i) (λ signature j.
        given_fine (Of sites_of_stmt (at q (n + 1))) _ (v.stmt_at p (n + 1)) _ (stmt_in x ts (n + 1) p q h) (λ body m.
        by kind key.0 key.1 _ (prop_Method [] kind key.0 key.1 _ r
        ∙ two (λ a b. a ++ b) g (function_is _ ∙ two (λ a b. a ++ b) j m)))))

    pub typed_class_is : (is_abstract : Bool)
        → Opt (Of sites_of_class (may q 2 ++ turns q 4 0)) (f.typed_class x ts is_abstract r p)
    unfolding f.typed_class
    typed_class_is is_abstract =
        given_any _ (own_name_at x ts p 0) _ (λ name.
        given_any _ (d.params_part_at p 1) _ (λ type_params.
        given_fine (Of (if_some sites_of_expr) (may q 2)) _ (v.optional v.expr_at (v.group p 2)) _
        (may_in x ts sites_of_expr v.expr_at (λ a b i. expr_in x ts 0 a b i) 2 p q h) (λ base g.
        given_any _ (d.args_part_at (v.group p 2) 1) _ (λ args.
        given_any _ (d.heritage_in ts (v.group p 3)) _ (λ implements.
        given_fine (Of (flat_map sites_of_class_member) (turns q 4 0)) _
        (v.turns (λ turn. v.member_at turn 0) (v.group p 4)) _
        (list_in x ts sites_of_class_member v.member_at (λ a b i. member_in x ts 0 a b i) 4 p q h) (λ members k.
        class_is _ ∙ two (λ a b. a ++ b) g k))))))

    pub typed_method_member_is : (kind : MethodKind) (is_async is_generator : Bool) (n : ℕ)
        → Opt (Of sites_of_class_member (at (group q n) 0 ++ (at (group q n) 2 ++ at (group q (n + 1)) 0)))
        (f.typed_method_member ts kind is_async is_generator r p n)
    unfolding f.typed_method_member
    typed_method_member_is kind is_async is_generator n =
        let i = group_is x ts p q n h in
        given_any _ (d.modifiers_in ts plain (v.group p 0)) _ (λ modifiers.
        given_fine (Of key_sites (at (group q n) 0)) _ (v.key_at (v.group p n) 0) _
        (key_in x ts 0 (v.group p n) (group q n) i) (λ key g.
        given_fine (Of signature_sites (at (group q n) 2)) _ (v.signature_at (v.group p n) 2) _
        (signature_in x ts 2 (v.group p n) (group q n) i) (λ signature j.
        given_fine (Of (if_some sites_of_stmt) (at (group q (n + 1)) 0)) _ (d.body_in (v.group p (n + 1))) _
        (body_there (v.group p (n + 1)) (group q (n + 1)) (group_is x ts p q (n + 1) h)) (λ body m.
        class_member_Method [] _ kind key.0 key.1 _ _ r
        ∙ two (λ a b. a ++ b) g (function_is _ ∙ two (λ a b. a ++ b) j m)))))

    pub typed_accessor_member_is : Opt (Of sites_of_class_member (own x ts l.TypedAccessorMember q))
        (f.typed_accessor_member ts r p)
    unfolding f.typed_accessor_member
    typed_accessor_member_is =
        given_any _ (given (kind_at ts p 1) (listed accessor_kinds)) _
        (λ kind. typed_method_member_is kind false false 2)

    pub typed_field_is : (accessor : Bool)
        → Opt (Of sites_of_class_member (at q 1 ++ may q 4)) (f.typed_field ts accessor r p)
    unfolding f.typed_field
    typed_field_is accessor =
        given_any _ (d.modifiers_in ts plain (v.group p 0)) _ (λ modifiers.
        given_fine (Of key_sites (at q 1)) _ (v.key_at p 1) _ (key_in x ts 1 p q h) (λ key g.
        given_any _ (d.annotation_at p 3) _ (λ ty.
        given_fine (Of (if_some sites_of_expr) (may q 4)) _ (v.optional v.expr_at (v.group p 4)) _
        (may_in x ts sites_of_expr v.expr_at (λ a b i. expr_in x ts 0 a b i) 4 p q h) (λ value k.
        class_member_Prop [] _ key.0 key.1 _ _ ty value r ∙ two (λ a b. a ++ b) g k))))

    pub index_member_is : Opt (Of sites_of_class_member []) (f.index_member x ts r p)
    unfolding f.index_member
    index_member_is =
        given_any _ (d.modifiers_in ts plain (v.group p 0)) _ (λ modifiers.
        given_any _ (ident_at x ts p 1) _ (λ name.
        given_any _ (option_map vPart.TypeAnn (v.type_at p 2)) _ (λ of.
        given_any _ (d.annotation_at p 3) _ (λ ty. class_member_TsIndexSignature [] modifiers name (Some of) ty r))))

    -- ---- expressions
    pub typed_call_post_is : Opt (PostIs (at q 1)) (e.typed_call_post r p)
    unfolding e.typed_call_post
    typed_call_post_is = typed_call_is false r p q h

    pub typed_template_post_is : Opt (PostIs (at q 1)) (e.typed_template_post r p)
    unfolding e.typed_template_post
    typed_template_post_is =
        given_any _ (d.args_part_at p 0) _ (λ type_args.
        map_fine (Of sites_of_expr (at q 1)) (PostIs (at q 1)) (v.expr_at p 1) _ (expr_in x ts 1 p q h) (λ tpl g.
        post_by x ts r p q h (at q 1) (e.typed_tagged_of r type_args tpl)
        (λ start it. Expr-F.TaggedTpl it type_args tpl _)
        (λ start it. vExpr.rolls-TaggedTpl it type_args tpl _)
        (λ start it. expr_TaggedTpl [] it type_args tpl _ ∙ ap (λ k. sites_of_expr it ++ k) g)
        (λ start it. refl) (λ start it. refl) (λ start it. refl)))

    pub non_null_post_is : Opt (PostIs []) (e.non_null_post r)
    unfolding e.non_null_post
    non_null_post_is =
        post_by x ts r p q h [] (e.non_null_of r) (λ start it. Expr-F.TsNonNull it _)
        (λ start it. vExpr.rolls-TsNonNull it _)
        (λ start it. expr_TsNonNull [] it _ ∙ sym (append-nil (sites_of_expr it)))
        (λ start it. refl) (λ start it. refl) (λ start it. refl)

    new_by : (callee : Expr) (type_args : Option TsPart) (args : Option (List Expr)) (a b : Found)
        → sites_of_expr callee ≡ a
        → if_some (flat_map sites_of_expr) args ≡ b → own x ts l.TypedNew q ≡ a ++ b
        → Ex x ts l.TypedNew q (e.typed_new_of r callee type_args args)
    new_by callee type_args (Some args) a b g i j =
        expr_by x ts l.TypedNew q _ (vExpr.New callee type_args true args r) (Expr-F.New callee type_args true args r)
        (vExpr.rolls-New callee type_args true args r)
        (expr_New [] callee type_args true args r ∙ two (λ k m. k ++ m) g i ∙ sym j)
        refl refl refl
    new_by callee type_args None a b g i j =
        expr_by x ts l.TypedNew q _ (vExpr.New callee type_args false [] r) (Expr-F.New callee type_args false [] r)
        (vExpr.rolls-New callee type_args false [] r)
        (expr_New [] callee type_args false [] r ∙ two (λ k m. k ++ m) g i ∙ sym j)
        refl refl refl

    pub typed_new_is : Opt (Ex x ts l.TypedNew q) (e.typed_new r p)
    unfolding e.typed_new
    typed_new_is =
        given_fine (Of sites_of_expr (at q 0)) _ (v.expr_at p 0) _ (expr_in x ts 0 p q h) (λ callee g.
        given_any _ (d.args_part_at p 1) _ (λ type_args.
        given_fine (Of (if_some (flat_map sites_of_expr)) (may q 2)) _ (v.optional v.args_at (v.group p 2)) _
        (may_in x ts (flat_map sites_of_expr) v.args_at (λ a b i. args_in x ts 0 a b i) 2 p q h) (λ args i.
        new_by callee type_args args (at q 0) (may q 2) g i refl)))

    -- ---- statements and declarations
    pub typed_declarator_is : Opt (Of sites_of_var_declarator (at q 0 ++ may q 3)) (s.typed_declarator ts r p)
    unfolding s.typed_declarator
    typed_declarator_is =
        given_fine (Of sites_of_pat (at q 0)) _ (d.annotated_at ts p 0 2) _ (annotated_is 0 2 p q h) (λ pat g.
        given_fine (Of (if_some sites_of_expr) (may q 3)) _ (v.optional v.expr_at (v.group p 3)) _
        (may_in x ts sites_of_expr v.expr_at (λ a b i. expr_in x ts 0 a b i) 3 p q h) (λ value i.
        declarator_parts _ ∙ two (λ k m. k ++ m) g i))

    pub typed_head_is : Opt (Of head_sites (at q 1)) (s.typed_head ts p)
    unfolding s.typed_head
    typed_head_is =
        given_any _ (given (kind_at ts p 0) (listed variable_kinds)) _ (λ kind.
        given_fine (Of sites_of_pat (at q 1)) _ (d.annotated_at ts p 1 2) _ (annotated_is 1 2 p q h) (λ pat g. g))

    pub interface_is : Opt (DeclarableIs []) (s.interface x ts p)
    unfolding s.interface
    interface_is =
        given_any _ (ident_at x ts p 0) _ (λ id.
        given_any _ (d.params_part_at p 1) _ (λ type_params.
        given_any _ (d.heritage_in ts (v.group p 2)) _ (λ extends.
        given_any _ (option_map vPart.Members (v.turns (λ turn. v.type_member_at turn 0) (v.group p 3))) _
        (λ body declare r.
        decl_TsInterface [] declare id type_params extends (Some body) r))))

    pub alias_is : Opt (DeclarableIs []) (s.alias x ts p)
    unfolding s.alias
    alias_is =
        given_any _ (ident_at x ts p 0) _ (λ id.
        given_any _ (d.params_part_at p 1) _ (λ type_params.
        given_any _ (option_map vPart.TypeAnn (v.type_at p 2)) _ (λ ty declare r.
        decl_TsTypeAlias [] declare id type_params (Some ty) r)))

    pub enum_is : Opt (DeclarableIs (own x ts l.EnumDeclaration q)) (s.enum_ x ts p)
    unfolding s.enum_
    enum_is =
        given_any _ (ident_at x ts p 1) _ (λ id.
        given_fine (Of (flat_map sites_of_ts_enum_member) (own x ts l.EnumDeclaration q)) _
        (v.turns (s.enum_member ts) (v.group p 2)) _
        (turns_in x ts sites_of_ts_enum_member (s.enum_member ts) (λ turn. at turn 0 ++ may turn 1)
        (λ a b i. given_fine (Of key_sites (at b 0)) _ (v.key_at a 0) _ (key_in x ts 0 a b i) (λ key g.
        given_fine (Of (if_some sites_of_expr) (may b 1)) _ (v.optional v.expr_at (v.group a 1)) _
        (may_in x ts sites_of_expr v.expr_at (λ c d j. expr_in x ts 0 c d j) 1 a b i) (λ value k.
        member_parts _ ∙ two (λ m n. m ++ n) g k)))
        (v.group p 2) (group q 2) (group_is x ts p q 2 h)) (λ members g declare r.
        decl_TsEnum [] declare _ id members r ∙ g))

    pub namespace_is : Opt (DeclarableIs (turns q 2 0)) (s.namespace ts p)
    unfolding s.namespace
    namespace_is =
        given_any _ (kind_at ts p 0) _ (λ kind.
        given_any _ (v.entity_at p 1) _ (λ id.
        given_fine (Of (flat_map sites_of_module_item) (turns q 2 0)) _ (s.items_of (v.group p 2)) _ (items_is 2 p q h)
        (λ body g declare r. decl_TsNamespace [] declare _ id body r ∙ g)))

    pub module_namespace_is : Opt (DeclarableIs (turns (group q 1) 0 0)) (s.module_namespace x ts p)
    unfolding s.module_namespace
    module_namespace_is =
        given_any _ (str_at x ts p 0) _ (λ id.
        given_fine (Of (flat_map sites_of_module_item) (turns (group q 1) 0 0)) _
        (s.items_of (v.group (v.group p 1) 0)) _
        (items_is 0 (v.group p 1) (group q 1) (group_is x ts p q 1 h))
        (λ body g declare r. decl_TsModule [] declare id _ body r ∙ g))

    pub global_is : Opt (DeclarableIs (turns q 0 0)) (s.global p)
    unfolding s.global
    global_is =
        map_fine (Of (flat_map sites_of_module_item) (turns q 0 0)) (DeclarableIs (turns q 0 0))
        (s.items_of (v.group p 0)) _
        (items_is 0 p q h) (λ body g declare r. decl_TsGlobal [] declare body r ∙ g)

    pub declared_is : Opt (Of sites_of_decl (at q 0)) (s.declared r p)
    unfolding s.declared
    declared_is =
        map_fine (DeclarableIs (at q 0)) (Of sites_of_decl (at q 0)) (v.declarable_at p 0) _
        (declarable_in x ts 0 p q h)
        (λ decl g. g true r)

    pub declared_variables_is : Opt (Of sites_of_decl (at q 0)) (s.declared_variables r p)
    unfolding s.declared_variables
    declared_variables_is =
        map_fine (Of variables_sites (at q 0)) (Of sites_of_decl (at q 0)) (v.variables_at p 0) _
        (variables_in x ts 0 p q h)
        (λ vs g. decl_Var [] true vs.0 vs.1 r ∙ g)

    pub typed_optional_post_is : Opt (PostIs (own x ts l.TypedOptionalPost q)) (e.typed_optional_post x ts r p)
    unfolding e.typed_optional_post
    typed_optional_post_is =
        optional_is r (v.part (v.group p 0) 0) (part (group q 0) 0)
        (part_is x ts (v.group p 0) (group q 0) 0 (group_is x ts p q 0 h))

    pub type_assertion_is : Opt (Ex x ts l.TypeAssertion q) (e.type_assertion r p)
    unfolding e.type_assertion
    type_assertion_is =
        given_fine (Of sites_of_expr (at q 1)) _ (v.expr_at p 1) _ (expr_in x ts 1 p q h) (λ it g.
        before_is q r it (at q 1) g (v.part (v.group p 0) 0))

    pub typed_binary_is : Opt (Ex x ts l.TypedBinary q) (e.typed_binary ts r p)
    unfolding e.typed_binary Tb
    typed_binary_is =
        given_fine (Of sites_of_expr (at q 0)) _ (v.expr_at p 0) _ (expr_in x ts 0 p q h) (λ left g.
        turned_is q r left (at q 0) g (v.behind (v.part p 0)) (v.group p 1) (group q 1) (group_is x ts p q 1 h)
        (v.part (v.group p 1) 1) (part (group q 1) 1)
        (part_is x ts (v.group p 1) (group q 1) 1 (group_is x ts p q 1 h)))

    pub typed_try_is : Opt (St x ts (own x ts l.TypedTryStatement q)) (s.typed_try ts r p)
    unfolding s.typed_try
    typed_try_is =
        given_fine (Of sites_of_stmt (at q 0)) _ (v.stmt_at p 0) _ (stmt_in x ts 0 p q h) (λ block g.
        handled_is r block (at q 0) g (v.group p 1) (group q 1) (group_is x ts p q 1 h))
