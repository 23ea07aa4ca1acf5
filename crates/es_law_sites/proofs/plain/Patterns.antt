-- The sites of what patterns, functions and classes become.
use Rattle.std.specs.Prelude.{Bool, false, List, [], ◌∷◌, ◌++◌, Option, Some, None}
use Rattle.std.specs.List.{flat_map}
use Rattle.std.proofs.Common.{◌≡◌, ℕ, ◌+◌, refl, sym, ap, ◌∙◌, subst}
use Rattle.std.proofs.lemmas.List.{append-nil, append_assoc}
use Rattle.base.specs.declared.range.Range.{Range}
use Rattle.es_token.specs.declared.token.Token.{Token}
use Rattle.es_ast.specs.declared.ts.leaf.MethodKind.{MethodKind}
use Rattle.es_ast.specs.declared.leaf.Lit.{Lit}
use Rattle.es_ast.specs.declared.leaf.Lit.TheVariants as vLit
use Rattle.es_ast.specs.declared.ast.Expr.{Expr}
use Rattle.es_ast.specs.declared.ast.Expr.TheVariants as vExpr
use Rattle.es_ast.specs.declared.ast.Pat.{Pat}
use Rattle.es_ast.specs.declared.ast.Pat.TheVariants as vPat
use Rattle.es_ast.specs.declared.ast.Prop.{Prop, roll-Prop, out-Prop, out-roll-Prop}
use Rattle.es_ast.specs.declared.ast.Prop.TheVariants as vProp
use Rattle.es_ast.specs.declared.ast.Stmt.{Stmt}
use Rattle.es_ast.specs.declared.ast.Class.{roll-Class, out-roll-Class}
use Rattle.es_ast.specs.declared.ast.Function.{Function, roll-Function, out-roll-Function}
use Rattle.es_ast.specs.declared.ast.Param.{roll-Param, out-roll-Param}
use Rattle.es_ast.specs.declared.ast.ClassMember.TheOpen.{Expr-F, Prop-F, Class-F, Function-F, Param-F}
use Rattle.es_grammar.specs.declared.rows.NodeKind.{NodeKind}
use Rattle.es_grammar.specs.declared.rows.NodeKind.TheVariants as l
use Rattle.es_site.specs.Parts.{Whole, PropParts}
use Rattle.es_site.specs.Attributes.{is_name, says, plain_part, given_part, or_before}
use Rattle.es_site.specs.Sites.{Found, if_some}
use Rattle.es_site.specs.Sites.{sites_of_class_member, sites_of_expr, sites_of_object_pat_prop, sites_of_pat, sites_of_prop, sites_of_stmt, sites_of_class, sites_of_function, sites_of_param}
use Rattle.es_site.proofs.Equations.{class_member_StaticBlock, class_member_Method, class_member_Prop, expr_Lit, expr_PrivateName, object_pat_prop_KeyValue, object_pat_prop_Assign, object_pat_prop_Rest, pat_Ident, pat_Array, pat_Object, pat_Rest, pat_Assign, pat_Hole, prop_Spread, prop_Method, stmt_Block, stmt_Expr, class_parts, function_parts, param_parts}
use Rattle.es_lowering.specs.Value.{Typed, Value, given, typed}
use Rattle.es_lowering.specs.Value as v
use Rattle.es_lowering.specs.Texts.{span_of, token_at, kind_at, ident_at, private_at, numeric_at, own_name_at}
use Rattle.es_lowering.specs.Operators.{listed, accessor_kinds}
use Rattle.es_lowering.specs.Expressions.{elements}
use Rattle.es_lowering.specs.Patterns as d
use Rattle.es_lowering.specs.Functions as f
use Rattle.es_lowering.specs.Classes as c
use Rattle.es_law_sites.proofs.ranges.Cuts.{Opt}
use Rattle.es_law_sites.specs.plain.Part.{Part, node, part, group, found, at, may, each, turns}
use Rattle.es_law_sites.specs.plain.Own as o
use Rattle.es_law_sites.specs.plain.Own.{own}
use Rattle.es_law_sites.proofs.plain.Given.{given_fine, given_any, map_fine, map_any}
use Rattle.es_law_sites.proofs.plain.Is.{Of, KeyIs, PropIs, GivenIs, Is, none, nothing, both, same, made, part_is, group_is, key_sites, str_view, expr_sites, expr_in, stmt_in, pat_in, block_in, param_in, params_in, pat_prop_in, member_in, key_in, may_in, list_in}
use Rattle.es_law_sites.proofs.plain.Exprs.{two, Ex}
use Rattle.es_law_sites.proofs.plain.Objects.{key_by}
use Rattle.es_law_sites.proofs.plain.More.{IsNoStr, numeric_there, elements_in}

pub function_is : (it : Whole Function-F)
    → sites_of_function (roll-Function it) ≡ flat_map sites_of_param it.params ++ if_some sites_of_stmt it.body
function_is it =
    let P : Whole Function-F → Type 0 = λ w. sites_of_function (roll-Function it)
    ≡ flat_map sites_of_param w.params ++ if_some sites_of_stmt w.body in
    subst P (out-roll-Function it) (function_parts [] (roll-Function it))

pub class_is : (it : Whole Class-F)
    → sites_of_class (roll-Class it) ≡ if_some sites_of_expr it.super_class ++ flat_map sites_of_class_member it.body
class_is it =
    let P : Whole Class-F → Type 0 = λ w. sites_of_class (roll-Class it)
    ≡ if_some sites_of_expr w.super_class ++ flat_map sites_of_class_member w.body in
    subst P (out-roll-Class it) (class_parts [] (roll-Class it))

pub param_is : (it : Whole Param-F) → sites_of_param (roll-Param it) ≡ sites_of_pat it.pat
param_is it =
    let P : Whole Param-F → Type 0 = λ w. sites_of_param (roll-Param it) ≡ sites_of_pat w.pat in
    subst P (out-roll-Param it) (param_parts [] (roll-Param it))

flat_append : {A : Type 0} (sites : A → Found) (a b : List A)
    → flat_map sites (a ++ b) ≡ flat_map sites a ++ flat_map sites b
flat_append sites [] b = refl
flat_append sites (x ∷ a) b =
    ap (λ k. sites x ++ k) (flat_append sites a b) ∙ sym (append_assoc (sites x) (flat_map sites a) (flat_map sites b))

pub with_rest : {A : Type 0} (sites : A → Found) (all : List A) (last : Option A) (a b : Found) → flat_map sites all ≡ a
    → if_some sites last ≡ b → flat_map sites (all ++ v.option_list last) ≡ a ++ b
with_rest sites all (Some it) a b e g =
    flat_append sites all (it ∷ []) ∙ two (λ k m. k ++ m) e (append-nil (sites it) ∙ g)
with_rest sites all None a b e g = flat_append sites all [] ∙ two (λ k m. k ++ m) e g

pub default_is : (r : Range) (pat : Pat) (value : Option Expr) (a b : Found) → sites_of_pat pat ≡ a
    → if_some sites_of_expr value ≡ b → sites_of_pat (d.with_default r pat value) ≡ a ++ b
default_is r pat (Some value) a b e g = pat_Assign [] pat value r ∙ two (λ k m. k ++ m) e g
default_is r pat None a b e g = e ∙ sym (append-nil a) ∙ ap (λ k. a ++ k) g

module _ (x : List ℕ) (ts : List Token) where
  -- a body of an arrow
  block_or_is : (r : Range) (s : Found) (a : Option (List Stmt)) (b : Option Expr)
      → Opt (Of (flat_map sites_of_stmt) s) a
      → Opt (Of sites_of_expr s) b → Opt (Of sites_of_stmt s) (f.block_or r a b)
  block_or_is r s (Some stmts) b e g = stmt_Block [] stmts r ∙ e
  block_or_is r s None b e g = map_fine (Of sites_of_expr s) (Of sites_of_stmt s) b _ g (λ it k. stmt_Expr [] it r ∙ k)

  pub body_is : (p : Value) (q : Part) → Is x ts p q → Opt (Of sites_of_stmt (found q)) (f.body_of ts p)
  body_is p q none = tt
  body_is p q nothing = tt
  body_is p q (both a b e s h i) = tt
  body_is p q (same n) = tt
  body_is p q (made from to m label r s h) =
      block_or_is (span_of ts from to) s m.block m.expr h.block (expr_sites x ts label r s m.expr h.expr)

  -- a property that is no plain `key: value`
  pub prop_by : (label : NodeKind) (q : Part) (s : Found) (prop : Prop) (it : PropParts) → roll-Prop it ≡ prop
      → sites_of_prop prop ≡ s
      → plain_part it ≡ o.is_plain x ts (node label q s)
      → ((word : List ℕ) → given_part word it ≡ None)
      → ((word : List ℕ) (before : Option Part) → o.given_in x ts word (node label q s) before ≡ before)
      → PropIs x ts label q s prop
  prop_by label q s prop it rolls sites a b e =
      let is : out-Prop prop ≡ it = sym (ap out-Prop rolls) ∙ out-roll-Prop it in
      record {
        sites = sites;
        plain = ap plain_part is ∙ a;
        gives = λ word last before h.
            (let P : Option Expr → Type 0 = λ k. GivenIs x ts (or_before k last) before in
            let Q : Option Part → Type 0 = λ k. GivenIs x ts (or_before (given_part word (out-Prop prop)) last) k in
            subst Q (sym (e word before)) (subst P (sym (ap (given_part word) is ∙ b word)) h));
      }

  module _ (r : Range) (p : Value) (q : Part) (h : Is x ts p q) where
    -- ---- patterns
    pub name_pattern_is : Opt (Of sites_of_pat []) (d.name_pattern x ts p)
    unfolding d.name_pattern
    name_pattern_is = map_any (Of sites_of_pat []) (token_at ts p 0) _ (λ t. pat_Ident [] _ None _)

    pub array_elements_is : (from : ℕ) → Opt (Of (flat_map sites_of_pat) (each (λ turn. may turn 0) (group q 0)))
        (elements vPat.Hole v.pat_at ts (from + 1) (v.group p 0))
    array_elements_is from =
        elements_in x ts sites_of_pat vPat.Hole v.pat_at (λ s. pat_Hole [] s) (λ a b i. pat_in x ts 0 a b i) (from + 1)
        (v.group p 0) (group q 0) (group_is x ts p q 0 h)

    pub array_pattern_is : (from : ℕ) → Opt (Of sites_of_pat (own x ts l.ArrayPattern q)) (d.array_pattern ts from r p)
    unfolding d.array_pattern
    array_pattern_is from =
        map_fine (Of (flat_map sites_of_pat) (own x ts l.ArrayPattern q)) (Of sites_of_pat (own x ts l.ArrayPattern q))
        _ _
        (array_elements_is from) (λ elems e. pat_Array [] elems false None r ∙ e)

    pub object_pattern_is : Opt (Of sites_of_pat (turns q 0 0)) (d.object_pattern r p)
    unfolding d.object_pattern
    object_pattern_is =
        map_fine (Of (flat_map sites_of_object_pat_prop) (turns q 0 0)) (Of sites_of_pat (turns q 0 0)) _ _
        (list_in x ts sites_of_object_pat_prop v.pat_prop_at (λ a b i. pat_prop_in x ts 0 a b i) 0 p q h)
        (λ props e. pat_Object [] props false None r ∙ e)

    pub rest_pattern_is : Opt (Of sites_of_pat (at q 0)) (d.rest_pattern r p)
    unfolding d.rest_pattern
    rest_pattern_is =
        map_fine (Of sites_of_pat (at q 0)) (Of sites_of_pat (at q 0)) (v.pat_at p 0) _ (pat_in x ts 0 p q h)
        (λ arg e. pat_Rest [] arg None r ∙ e)

    pub default_pattern_is : Opt (Of sites_of_pat (at q 0 ++ at q 1)) (d.default_pattern r p)
    unfolding d.default_pattern
    default_pattern_is =
        given_fine (Of sites_of_pat (at q 0)) _ (v.pat_at p 0) _ (pat_in x ts 0 p q h) (λ left e.
        given_fine (Of sites_of_expr (at q 1)) _ (v.expr_at p 1) _ (expr_in x ts 1 p q h) (λ right g.
        pat_Assign [] left right r ∙ two (λ k m. k ++ m) e g))

    pub rest_property_is : Opt (Of sites_of_object_pat_prop (at q 0)) (d.rest_property r p)
    unfolding d.rest_property
    rest_property_is =
        map_fine (Of sites_of_pat (at q 0)) (Of sites_of_object_pat_prop (at q 0)) (v.pat_at p 0) _
        (pat_in x ts 0 p q h)
        (λ arg e. object_pat_prop_Rest [] arg r ∙ e)

    pub key_pattern_is : Opt (Of sites_of_object_pat_prop (own x ts l.KeyPattern q)) (d.key_pattern ts r p)
    unfolding d.key_pattern
    key_pattern_is =
        let T = Of sites_of_object_pat_prop (own x ts l.KeyPattern q) in
        given_fine (Of key_sites (at q 0)) T (v.key_at p 0) _ (key_in x ts 0 p q h) (λ key e.
        given_fine (Of sites_of_pat (at q 1)) T (v.pat_at p 1) _ (pat_in x ts 1 p q h) (λ pat g.
        given_fine (Of (if_some sites_of_expr) (may q 2)) T (v.optional v.expr_at (v.group p 2)) _
        (may_in x ts sites_of_expr v.expr_at (λ a b i. expr_in x ts 0 a b i) 2 p q h) (λ value k.
        object_pat_prop_KeyValue [] key.0 key.1 _ r ∙ two (λ a b. a ++ b) e (default_is _ pat value _ _ g k))))

    pub name_property_is : Opt (Of sites_of_object_pat_prop (may q 1)) (d.name_property x ts r p)
    unfolding d.name_property
    name_property_is =
        given_any _ (ident_at x ts p 0) _ (λ key.
        given_fine (Of (if_some sites_of_expr) (may q 1)) _ (v.optional v.expr_at (v.group p 1)) _
        (may_in x ts sites_of_expr v.expr_at (λ a b i. expr_in x ts 0 a b i) 1 p q h) (λ value e.
        object_pat_prop_Assign [] key value r ∙ e))

    -- ---- parameters
    pub default_parameter_is : Opt (Of sites_of_param (at q 0 ++ at q 1)) (f.default_parameter r p)
    unfolding f.default_parameter
    default_parameter_is =
        given_fine (Of sites_of_pat (at q 0)) _ (v.pat_at p 0) _ (pat_in x ts 0 p q h) (λ left e.
        given_fine (Of sites_of_expr (at q 1)) _ (v.expr_at p 1) _ (expr_in x ts 1 p q h) (λ right g.
        param_is _ ∙ pat_Assign [] left right r ∙ two (λ k m. k ++ m) e g))

    pub parameters_is : Opt (Of (flat_map sites_of_param) (turns q 0 0 ++ may q 1)) (f.parameters ts p)
    unfolding f.parameters
    parameters_is =
        given_fine (Of (flat_map sites_of_param) (turns q 0 0)) _ (v.turns (λ turn. v.param_at turn 0) (v.group p 0)) _
        (list_in x ts sites_of_param v.param_at (λ a b i. param_in x ts 0 a b i) 0 p q h) (λ all e.
        given_fine (Of (if_some sites_of_param) (may q 1)) _ (v.optional (f.rest_at ts) (v.group p 1)) _
        (may_in x ts sites_of_param (f.rest_at ts)
        (λ a b i. map_fine (Of sites_of_pat (at b 0)) (Of sites_of_param (at b 0)) (v.pat_at a 0) _
        (pat_in x ts 0 a b i)
        (λ pat k. param_is _ ∙ pat_Rest [] pat None _ ∙ k)) 1 p q h) (λ last g.
        with_rest sites_of_param all last _ _ e g))

    pub signature_is : Opt (Of (flat_map sites_of_param) (at q 0)) (f.signature p)
    unfolding f.signature
    signature_is = params_in x ts 0 p q h

    -- ---- functions
    pub function_made_is : (is_async : Bool)
        → Opt (Of sites_of_function (at q 2 ++ at q 3)) (f.function x ts is_async r p)
    unfolding f.function
    function_made_is is_async =
        given_any _ (own_name_at x ts p 1) _ (λ name.
        given_fine (Of (flat_map sites_of_param) (at q 2)) _ (v.params_at p 2) _ (params_in x ts 2 p q h) (λ params e.
        given_fine (Of sites_of_stmt (at q 3)) _ (v.stmt_at p 3) _ (stmt_in x ts 3 p q h) (λ body g.
        function_is _ ∙ two (λ k m. k ++ m) e g)))

    pub method_at_is : (is_async is_generator : Bool) (n : ℕ)
        → Opt (Of sites_of_function (at q n ++ at q (n + 1))) (f.method_at ts is_async is_generator p n)
    unfolding f.method_at
    method_at_is is_async is_generator n =
        given_fine (Of (flat_map sites_of_param) (at q n)) _ (v.params_at p n) _ (params_in x ts n p q h) (λ params e.
        given_fine (Of sites_of_stmt (at q (n + 1))) _ (v.stmt_at p (n + 1)) _ (stmt_in x ts (n + 1) p q h) (λ body g.
        function_is _ ∙ two (λ k m. k ++ m) e g))

    pub name_arrow_is : (label : NodeKind) (is_async : Bool)
        → ((it : Function) → sites_of_function it ≡ at (group q 1) 0
        → Ex x ts label q (vExpr.Arrow it)) → Opt (Ex x ts label q) (f.name_arrow x ts is_async r p)
    unfolding f.name_arrow
    name_arrow_is label is_async by =
        given_any _ (token_at ts p 0) _ (λ t.
        given_fine (Of sites_of_stmt (at (group q 1) 0)) _ (f.body_of ts (v.part (v.group p 1) 0)) _
        (body_is (v.part (v.group p 1) 0) (part (group q 1) 0)
        (part_is x ts (v.group p 1) (group q 1) 0 (group_is x ts p q 1 h))) (λ body g.
        by _ (function_is _ ∙ two (λ k m. k ++ m) (append-nil _ ∙ param_is _ ∙ pat_Ident [] _ None _) g)))

    pub parenthesized_arrow_is : (label : NodeKind) (is_async : Bool)
        → ((it : Function) → sites_of_function it ≡ at q 0 ++ at (group q 1) 0 → Ex x ts label q (vExpr.Arrow it))
        → Opt (Ex x ts label q) (f.parenthesized_arrow ts is_async r p)
    unfolding f.parenthesized_arrow
    parenthesized_arrow_is label is_async by =
        given_fine (Of (flat_map sites_of_param) (at q 0)) _ (v.params_at p 0) _ (params_in x ts 0 p q h) (λ params e.
        given_fine (Of sites_of_stmt (at (group q 1) 0)) _ (f.body_of ts (v.part (v.group p 1) 0)) _
        (body_is (v.part (v.group p 1) 0) (part (group q 1) 0)
        (part_is x ts (v.group p 1) (group q 1) 0 (group_is x ts p q 1 h))) (λ body g.
        by _ (function_is _ ∙ two (λ k m. k ++ m) e g)))

    -- ---- keys and properties
    pub number_key_is : Opt (KeyIs x ts l.NumberKey q []) (f.number_key x ts p)
    unfolding f.number_key
    number_key_is =
        map_fine (IsNoStr x ts) (KeyIs x ts l.NumberKey q []) (numeric_at x ts p 0) _
        (numeric_there x ts (token_at ts p 0)) (λ it e.
        key_by x ts r p q h l.NumberKey [] (false, vExpr.Lit it) (Expr-F.Lit it) (vExpr.rolls-Lit it) (expr_Lit [] it)
        (named it e) (λ word. said word it e))
      where
        named : (it : Lit) → str_view (Expr-F.Lit it) ≡ None → is_name (Expr-F.Lit it) ≡ false
        named (vLit.Str s) e = absurd (let P : Option _ → Type 0 = λ k. IsSome k in subst P e tt)
          where
            IsSome : {A : Type 0} → Option A → Type 0
            IsSome (Some a) = Unit {0}
            IsSome None = ⊥
        named _ e = refl

        said : (word : List ℕ) (it : Lit) → str_view (Expr-F.Lit it) ≡ None → says word (Expr-F.Lit it) ≡ false
        said word (vLit.Str s) e = absurd (let P : Option _ → Type 0 = λ k. IsSome k in subst P e tt)
          where
            IsSome : {A : Type 0} → Option A → Type 0
            IsSome (Some a) = Unit {0}
            IsSome None = ⊥
        said word _ e = refl

    pub private_key_is : Opt (KeyIs x ts l.PrivateKey q []) (f.private_key x ts p)
    unfolding f.private_key
    private_key_is =
        map_any (KeyIs x ts l.PrivateKey q []) (private_at x ts p 0) _ (λ name.
        key_by x ts r p q h l.PrivateKey [] (false, vExpr.PrivateName name) (Expr-F.PrivateName name)
        (vExpr.rolls-PrivateName name)
        (expr_PrivateName [] name) refl (λ word. refl))

    pub spread_property_is : Opt (PropIs x ts l.SpreadProperty q (at q 0)) (f.spread_property r p)
    unfolding f.spread_property
    spread_property_is =
        map_fine (Of sites_of_expr (at q 0)) (PropIs x ts l.SpreadProperty q (at q 0)) (v.expr_at p 0) _
        (expr_in x ts 0 p q h) (λ e g.
        prop_by l.SpreadProperty q (at q 0) (vProp.Spread e r) (Prop-F.Prop::Spread e r) (vProp.rolls-Spread e r)
        (prop_Spread [] e r ∙ g) refl (λ word. refl) (λ word before. refl))

    pub method_property_is : (label : NodeKind) (kind : MethodKind) (is_async is_generator : Bool) (n : ℕ)
        → ((k : MethodKind) (b : Bool) (key : Expr) (it : Function)
        → sites_of_prop (vProp.Method k b key it r) ≡ at q n ++ (at q (n + 1) ++ at q (n + 1 + 1))
        → PropIs x ts label q (own x ts label q) (vProp.Method k b key it r))
        → Opt (PropIs x ts label q (own x ts label q)) (f.method_property ts kind is_async is_generator r p n)
    unfolding f.method_property
    method_property_is label kind is_async is_generator n by =
        given_fine (Of key_sites (at q n)) _ (v.key_at p n) _ (key_in x ts n p q h) (λ key e.
        given_fine (Of sites_of_function (at q (n + 1) ++ at q (n + 1 + 1))) _
        (f.method_at ts is_async is_generator p (n + 1)) _
        (method_at_is is_async is_generator (n + 1)) (λ it g.
        by kind key.0 key.1 it (prop_Method [] kind key.0 key.1 it r ∙ two (λ a b. a ++ b) e g)))

    -- ---- classes
    pub class_made_is : Opt (Of sites_of_class (may q 1 ++ turns q 2 0)) (c.class_ x ts r p)
    unfolding c.class_
    class_made_is =
        given_any _ (own_name_at x ts p 0) _ (λ name.
        given_fine (Of (if_some sites_of_expr) (may q 1)) _ (v.optional v.expr_at (v.group p 1)) _
        (may_in x ts sites_of_expr v.expr_at (λ a b i. expr_in x ts 0 a b i) 1 p q h) (λ base e.
        given_fine (Of (flat_map sites_of_class_member) (turns q 2 0)) _
        (v.turns (λ turn. v.member_at turn 0) (v.group p 2)) _
        (list_in x ts sites_of_class_member v.member_at (λ a b i. member_in x ts 0 a b i) 2 p q h) (λ members g.
        class_is _ ∙ two (λ k m. k ++ m) e g)))

    pub static_block_is : Opt (Of sites_of_class_member (at q 0)) (c.static_block r p)
    unfolding c.static_block
    static_block_is =
        map_fine (Of (flat_map sites_of_stmt) (at q 0)) (Of sites_of_class_member (at q 0)) (v.block_at p 0) _
        (block_in x ts 0 p q h)
        (λ stmts e. class_member_StaticBlock [] stmts r ∙ e)

    pub method_member_is : (kind : MethodKind) (is_async is_generator : Bool) (n : ℕ)
        → Opt (Of sites_of_class_member (at q n ++ (at q (n + 1) ++ at q (n + 1 + 1))))
        (c.method_member ts kind is_async is_generator r p n)
    unfolding c.method_member
    method_member_is kind is_async is_generator n =
        given_fine (Of key_sites (at q n)) _ (v.key_at p n) _ (key_in x ts n p q h) (λ key e.
        given_fine (Of sites_of_function (at q (n + 1) ++ at q (n + 1 + 1))) _
        (f.method_at ts is_async is_generator p (n + 1)) _
        (method_at_is is_async is_generator (n + 1)) (λ it g.
        class_member_Method [] _ kind key.0 key.1 false it r ∙ two (λ a b. a ++ b) e g))

    pub accessor_member_is : Opt (Of sites_of_class_member (own x ts l.AccessorMember q)) (c.accessor_member ts r p)
    unfolding c.accessor_member
    accessor_member_is =
        given_any _ (given (kind_at ts p 1) (listed accessor_kinds)) _ (λ kind. method_member_is kind false false 2)

    pub field_member_is : (accessor : Bool)
        → Opt (Of sites_of_class_member (at q 1 ++ may q 2)) (c.field_member accessor r p)
    unfolding c.field_member
    field_member_is accessor =
        given_fine (Of key_sites (at q 1)) _ (v.key_at p 1) _ (key_in x ts 1 p q h) (λ key e.
        given_fine (Of (if_some sites_of_expr) (may q 2)) _ (v.optional v.expr_at (v.group p 2)) _
        (may_in x ts sites_of_expr v.expr_at (λ a b i. expr_in x ts 0 a b i) 2 p q h) (λ value g.
        class_member_Prop [] _ key.0 key.1 false false None value r ∙ two (λ a b. a ++ b) e g))
