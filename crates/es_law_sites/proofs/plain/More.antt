-- The sites of further forms of expressions.
use Rattle.std.specs.Prelude.{true, false, List, [], ◌∷◌, ◌++◌, Option, Some, None, option_map}
use Rattle.std.specs.List.{flat_map}
use Rattle.std.proofs.Common.{◌≡◌, ℕ, ◌+◌, refl, sym, ap, ◌∙◌}
use Rattle.std.proofs.lemmas.List.{append-nil}
use Rattle.base.specs.declared.range.Range.{Range}
use Rattle.es_token.specs.declared.token.Token.{Token}
use Rattle.es_token.specs.declared.token.TokenKind.{TokenKind}
use Rattle.es_token.specs.declared.token.TokenKind.TheVariants as k
use Rattle.grammar_theory.specs.Key.{same_kind}
use Rattle.es_ast.specs.declared.leaf.Lit.{Lit}
use Rattle.es_ast.specs.declared.leaf.Lit.TheVariants as vLit
use Rattle.es_ast.specs.declared.leaf.BinaryOp.TheVariants as vBinary
use Rattle.es_ast.specs.declared.ast.Expr.{Expr}
use Rattle.es_ast.specs.declared.ast.Expr.TheVariants as vExpr
use Rattle.es_ast.specs.declared.ast.ClassMember.TheOpen.{Expr-F}
use Rattle.es_grammar.specs.declared.rows.NodeKind.TheVariants as l
use Rattle.es_site.specs.Sites.{Found, if_some, sites_of_expr}
use Rattle.es_site.proofs.Equations.{expr_This, expr_Lit, expr_Tpl, expr_Array, expr_Hole, expr_Spread, expr_New, expr_Update, expr_Unary, expr_Bin, expr_PrivateName, expr_Yield, expr_TaggedTpl, expr_Member, expr_Index, expr_Call}
use Rattle.es_lowering.specs.Value.{Typed, Value, given, typed}
use Rattle.es_lowering.specs.Value as v
use Rattle.es_lowering.specs.Texts.{regex_of, token_of, token_at, kind_at, private_at, numeric_of, numeric_at, piece_there, property_of}
use Rattle.es_lowering.specs.Operators.{listed, unary_ops, update_ops}
use Rattle.es_lowering.specs.Expressions.{word_of, word, number, regexp, template, template_parts, element_of, behind_element, elements, array_literal, spread, member_of, index_of, call_of, tagged_of, template_post, optional_inner, optional_of, optional_post, new_of, new_, prefix, update_prefix, update_postfix, private_in, yield_of, yield_}
use Rattle.es_law_sites.proofs.ranges.Cuts.{Opt}
use Rattle.es_law_sites.specs.plain.Part.{Part, absent, more, token, node, part, as_group, group, found, at, inside, may, each, turns}
use Rattle.es_law_sites.specs.plain.Own as o
use Rattle.es_law_sites.specs.plain.Own.{src_by, options_by, with_by, own}
use Rattle.es_law_sites.proofs.plain.Given.{given_fine, given_any, map_fine, map_any, if_fine}
use Rattle.es_law_sites.proofs.plain.Is.{Of, PostIs, Is, none, nothing, both, same, made, part_is, as_group_is, group_is, str_view, read, expr_in, args_in, expr_sites, turns_in, may_in}
use Rattle.es_law_sites.proofs.plain.Exprs.{two, Ex, expr_by}
use Rattle.es_law_sites.proofs.plain.Calls.{post_by}

module _ (x : List ℕ) (ts : List Token) where
  -- a literal that is no string
  abbrev pub IsNoStr : Lit → Type 0
  IsNoStr it = str_view (Expr-F.Lit it) ≡ None

  numeric_is : (t : Token) → Opt IsNoStr (numeric_of x t)
  unfolding numeric_of
  numeric_is t =
      if_fine IsNoStr (same_kind t.kind k.Number) _ _ (λ e. refl)
      (if_fine IsNoStr (same_kind t.kind k.BigInt) _ _ (λ e. refl) tt)

  pub numeric_there : (o : Option Token) → Opt IsNoStr (given o (numeric_of x))
  numeric_there (Some t) = numeric_is t
  numeric_there None = tt

  word_by : (r : Range) (q : Part) (kind : TokenKind) → Opt (Ex x ts l.Word q) (word_of r kind)
  unfolding word_of
  word_by r q kind =
      let lit : (it : Lit) → str_view (Expr-F.Lit it) ≡ None → Ex x ts l.Word q (vExpr.Lit it) =
      λ it e. expr_by x ts l.Word q [] (vExpr.Lit it) (Expr-F.Lit it) (vExpr.rolls-Lit it) (expr_Lit [] it) e refl
      refl in
      if_fine (Ex x ts l.Word q) (same_kind kind k.ThisWord) _ _
      (λ e. expr_by x ts l.Word q [] (vExpr.This r) (Expr-F.Expr::This r) (vExpr.rolls-This r) (expr_This [] r) refl
      refl refl)
      (if_fine (Ex x ts l.Word q) (same_kind kind k.NullWord) _ _ (λ e. lit (vLit.Null r) refl)
      (if_fine (Ex x ts l.Word q) (same_kind kind k.TrueWord) _ _ (λ e. lit (vLit.Bool true r) refl)
      (if_fine (Ex x ts l.Word q) (same_kind kind k.FalseWord) _ _ (λ e. lit (vLit.Bool false r) refl) tt)))

  -- the elements of an array
  pub elements_in : {A : Type 0} (sites : A → Found) (hole : Range → A) (one : Value → ℕ → Option A)
      → ((r : Range) → sites (hole r) ≡ [])
      → ((p : Value) (q : Part) → Is x ts p q → Opt (Of sites (at q 0)) (one p 0))
      → (n : ℕ) (p : Value) (q : Part) → Is x ts p q
      → Opt (Of (flat_map sites) (each (λ turn. may turn 0) q)) (elements hole one ts n p)
  elements_in sites hole one none_ here n p q none = refl
  elements_in sites hole one none_ here n p q nothing = refl
  elements_in {A} sites hole one none_ here n p q (both a b r s h i) =
      given_fine (Of sites (may (as_group b) 0))
      (Of (flat_map sites) (may (as_group b) 0 ++ each (λ turn. may turn 0) s))
      (element_of hole one ts n (v.group (v.as_group a) 0)) _
      (go (v.group (v.as_group a) 0) (group (as_group b) 0)
      (group_is x ts (v.as_group a) (as_group b) 0 (as_group_is x ts a b h)))
      (λ it f.
      given_fine (Of (flat_map sites) (each (λ turn. may turn 0) s))
      (Of (flat_map sites) (may (as_group b) 0 ++ each (λ turn. may turn 0) s)) _ _
      (elements_in sites hole one none_ here (behind_element n (v.group (v.as_group a) 0)) r s i)
      (λ rest g. two (λ k m. k ++ m) f g))
    where
      go : (p : Value) (q : Part) → Is x ts p q → Opt (Of sites (inside (λ g. at g 0) q)) (element_of hole one ts n p)
      go p q none = none_ _
      go p q nothing = none_ _
      go p q (both a b r s h i) = here (v.more a r) (more b s) (both a b r s h i)
      go p q (same m) = none_ _
      go p q (made from to m label r s h) = none_ _
  elements_in sites hole one none_ here n p q (same m) = refl
  elements_in sites hole one none_ here n p q (made from to m label r s h) = refl

  -- parts of `?.`
  inner_args : (r : Range) (p : Value) (q : Part) → Is x ts p q
      → Opt (PostIs (found q)) (option_map (call_of true r) (given (typed p) (λ m. m.args)))
  inner_args r p q h =
      map_fine (Of (flat_map sites_of_expr) (found q)) (PostIs (found q)) (given (typed p) (λ (m : Typed). m.args))
      (call_of true r)
      (read x ts (flat_map sites_of_expr) (λ (m : Typed). m.args) (λ label r s m h. h.args) p q h) (λ args f.
      post_by x ts r p q h (found q) (call_of true r args) (λ start e. Expr-F.Call e true None args _)
      (λ start e. vExpr.rolls-Call e true None args _)
      (λ start e. expr_Call [] e true None args _ ∙ ap (λ s. sites_of_expr e ++ s) f)
      (λ start e. refl) (λ start e. refl) (λ start e. refl))

  inner_is : (r : Range) (p : Value) (q : Part) → Is x ts p q → Opt (PostIs (found q)) (optional_inner x ts r p)
  inner_is r p q none = inner_args r p q none
  inner_is r p q nothing = inner_args r p q nothing
  inner_is r p q (both a b c d h i) = inner_args r p q (both a b c d h i)
  inner_is r p q (same n) =
      map_any (PostIs []) (given (token_of ts (v.token n)) (property_of x)) (member_of true r) (λ m.
      post_by x ts r (v.token n) (token n) (same n) [] (member_of true r m) (λ start e. Expr-F.Member e true m.0 m.1 _)
      (λ start e. vExpr.rolls-Member e true m.0 m.1 _)
      (λ start e. expr_Member [] e true m.0 m.1 _ ∙ sym (append-nil (sites_of_expr e)))
      (λ start e. refl) (λ start e. refl) (λ start e. refl))
  inner_is r p q (made from to m label c s h) = inner_args r p q (made from to m label c s h)

  optional_is : (r : Range) (p : Value) (q : Part) → Is x ts p q
      → Opt (PostIs (o.optional_inner x ts q)) (optional_of x ts r p)
  optional_is r p q none = inner_is r v.absent absent none
  optional_is r p q nothing = inner_is r v.absent absent none
  optional_is r p q (both a b c d h i) = inner_is r a b h
  optional_is r p q (same n) = inner_is r v.absent absent none
  optional_is r p q (made from to m label c s h) =
      map_fine (Of sites_of_expr s) (PostIs s) m.expr (index_of true r) (expr_sites x ts label c s m.expr h.expr)
      (λ i f.
      post_by x ts r (v.node from to m) (node label c s) (made from to m label c s h) s (index_of true r i)
      (λ start e. Expr-F.Index e true i _)
      (λ start e. vExpr.rolls-Index e true i _)
      (λ start e. expr_Index [] e true i _ ∙ ap (λ s. sites_of_expr e ++ s) f)
      (λ start e. refl) (λ start e. refl) (λ start e. refl))

  module _ (r : Range) (p : Value) (q : Part) (h : Is x ts p q) where
    pub word_is : Opt (Ex x ts l.Word q) (word ts r p)
    unfolding word
    word_is = given_any (Ex x ts l.Word q) (kind_at ts p 0) (word_of r) (λ kind. word_by r q kind)

    pub number_is : Opt (Ex x ts l.Number q) (number x ts p)
    unfolding number
    number_is =
        map_fine IsNoStr (Ex x ts l.Number q) (numeric_at x ts p 0) vExpr.Lit (numeric_there (token_at ts p 0)) (λ it e.
        expr_by x ts l.Number q [] (vExpr.Lit it) (Expr-F.Lit it) (vExpr.rolls-Lit it) (expr_Lit [] it) e refl refl)

    pub regexp_is : Opt (Ex x ts l.RegExp q) (regexp x ts p)
    unfolding regexp
    regexp_is =
        map_any (Ex x ts l.RegExp q) (token_at ts p 0) _ (λ t.
        expr_by x ts l.RegExp q [] (vExpr.Lit (vLit.Regex (regex_of x t))) (Expr-F.Lit (vLit.Regex (regex_of x t)))
        (vExpr.rolls-Lit (vLit.Regex (regex_of x t))) (expr_Lit [] (vLit.Regex (regex_of x t))) refl refl refl)

    pub template_is : Opt (Ex x ts l.Template q) (template x ts r p)
    unfolding template
    template_is =
        map_any (Ex x ts l.Template q) (piece_there x ts p 0) _ (λ piece.
        expr_by x ts l.Template q [] (vExpr.Tpl (piece ∷ []) [] r) (Expr-F.Tpl (piece ∷ []) [] r)
        (vExpr.rolls-Tpl (piece ∷ []) [] r) (expr_Tpl [] (piece ∷ []) [] r) refl refl refl)

    pub template_parts_is : Opt (Ex x ts l.TemplateParts q) (template_parts x ts r p)
    unfolding template_parts
    template_parts_is =
        let T = Ex x ts l.TemplateParts q in
        given_any T (piece_there x ts p 0) _ (λ head.
        given_fine (Of sites_of_expr (at q 1)) T (v.expr_at p 1) _ (expr_in x ts 1 p q h) (λ first f.
        given_any T (v.turns (λ turn. piece_there x ts turn 0) (v.group p 2)) _ (λ middles.
        given_fine (Of (flat_map sites_of_expr) (turns q 2 1)) T (v.turns (λ turn. v.expr_at turn 1) (v.group p 2)) _
        (turns_in x ts sites_of_expr (λ turn. v.expr_at turn 1) (λ turn. at turn 1) (λ a b i. expr_in x ts 1 a b i)
        (v.group p 2) (group q 2) (group_is x ts p q 2 h)) (λ others g.
        given_any T (piece_there x ts p 3) _ (λ tail.
        expr_by x ts l.TemplateParts q (at q 1 ++ turns q 2 1) _
        (Expr-F.Tpl (head ∷ (middles ++ tail ∷ [])) (first ∷ others) r)
        (vExpr.rolls-Tpl _ _ r) (expr_Tpl [] _ (first ∷ others) r ∙ two (λ a b. a ++ b) f g) refl refl refl)))))

    pub array_literal_is : (from : ℕ) → Opt (Ex x ts l.ArrayLiteral q) (array_literal ts from r p)
    unfolding array_literal
    array_literal_is from =
        map_fine (Of (flat_map sites_of_expr) (own x ts l.ArrayLiteral q)) (Ex x ts l.ArrayLiteral q) _ _
        (elements_in sites_of_expr vExpr.Hole v.expr_at (λ s. expr_Hole [] s) (λ a b i. expr_in x ts 0 a b i) (from + 1)
        (v.group p 0) (group q 0) (group_is x ts p q 0 h)) (λ elems f.
        expr_by x ts l.ArrayLiteral q _ (vExpr.Array elems r) (Expr-F.Expr::Array elems r) (vExpr.rolls-Array elems r)
        (expr_Array [] elems r ∙ f) refl refl refl)

    pub spread_is : Opt (Ex x ts l.Spread q) (spread r p)
    unfolding spread
    spread_is =
        map_fine (Of sites_of_expr (at q 0)) (Ex x ts l.Spread q) (v.expr_at p 0) _ (expr_in x ts 0 p q h) (λ e f.
        expr_by x ts l.Spread q (at q 0) (vExpr.Spread e r) (Expr-F.Expr::Spread e r) (vExpr.rolls-Spread e r)
        (expr_Spread [] e r ∙ f) refl refl refl)

    new_by : (callee : Expr) (args : Option (List Expr)) (a b : Found) → sites_of_expr callee ≡ a
        → if_some (flat_map sites_of_expr) args ≡ b → own x ts l.New q ≡ a ++ b → Ex x ts l.New q (new_of r callee args)
    new_by callee (Some args) a b f g e =
        expr_by x ts l.New q _ (vExpr.New callee None true args r) (Expr-F.New callee None true args r)
        (vExpr.rolls-New callee None true args r)
        (expr_New [] callee None true args r ∙ two (λ k m. k ++ m) f g ∙ sym e)
        refl refl refl
    new_by callee None a b f g e =
        expr_by x ts l.New q _ (vExpr.New callee None false [] r) (Expr-F.New callee None false [] r)
        (vExpr.rolls-New callee None false [] r) (expr_New [] callee None false [] r ∙ two (λ k m. k ++ m) f g ∙ sym e)
        refl refl refl

    pub new_is : Opt (Ex x ts l.New q) (new_ r p)
    unfolding new_
    new_is =
        given_fine (Of sites_of_expr (at q 0)) (Ex x ts l.New q) (v.expr_at p 0) _ (expr_in x ts 0 p q h) (λ callee f.
        given_fine (Of (if_some (flat_map sites_of_expr)) (may q 1)) (Ex x ts l.New q)
        (v.optional v.args_at (v.group p 1)) _
        (may_in x ts (flat_map sites_of_expr) v.args_at (λ a b i. args_in x ts 0 a b i) 1 p q h) (λ args g.
        new_by callee args (at q 0) (may q 1) f g refl))

    pub prefix_is : Opt (Ex x ts l.UnaryExpression q) (prefix ts r p)
    unfolding prefix
    prefix_is =
        let T = Ex x ts l.UnaryExpression q in
        given_any T (given (kind_at ts p 0) (listed unary_ops)) _ (λ op.
        given_fine (Of sites_of_expr (at q 1)) T (v.expr_at p 1) _ (expr_in x ts 1 p q h) (λ arg f.
        expr_by x ts l.UnaryExpression q (at q 1) (vExpr.Unary op arg r) (Expr-F.Unary op arg r)
        (vExpr.rolls-Unary op arg r)
        (expr_Unary [] op arg r ∙ f) refl refl refl))

    pub update_prefix_is : Opt (Ex x ts l.UpdatePrefix q) (update_prefix ts r p)
    unfolding update_prefix
    update_prefix_is =
        let T = Ex x ts l.UpdatePrefix q in
        given_any T (given (kind_at ts p 0) (listed update_ops)) _ (λ op.
        given_fine (Of sites_of_expr (at q 1)) T (v.expr_at p 1) _ (expr_in x ts 1 p q h) (λ arg f.
        expr_by x ts l.UpdatePrefix q (at q 1) (vExpr.Update op true arg r) (Expr-F.Update op true arg r)
        (vExpr.rolls-Update op true arg r) (expr_Update [] op true arg r ∙ f) refl refl refl))

    pub update_postfix_is : Opt (Ex x ts l.UpdatePostfix q) (update_postfix ts r p)
    unfolding update_postfix
    update_postfix_is =
        let T = Ex x ts l.UpdatePostfix q in
        given_fine (Of sites_of_expr (at q 0)) T (v.expr_at p 0) _ (expr_in x ts 0 p q h) (λ arg f.
        given_any T (given (kind_at ts p 1) (listed update_ops)) _ (λ op.
        expr_by x ts l.UpdatePostfix q (at q 0) (vExpr.Update op false arg r) (Expr-F.Update op false arg r)
        (vExpr.rolls-Update op false arg r) (expr_Update [] op false arg r ∙ f) refl refl refl))

    pub private_in_is : Opt (Ex x ts l.PrivateIn q) (private_in x ts r p)
    unfolding private_in
    private_in_is =
        let T = Ex x ts l.PrivateIn q in
        given_any T (private_at x ts p 0) _ (λ name.
        given_fine (Of sites_of_expr (at q 1)) T (v.expr_at p 1) _ (expr_in x ts 1 p q h) (λ right f.
        expr_by x ts l.PrivateIn q (at q 1) _ (Expr-F.Bin vBinary.In (vExpr.PrivateName name) right r)
        (vExpr.rolls-Bin vBinary.In (vExpr.PrivateName name) right r)
        (expr_Bin [] vBinary.In (vExpr.PrivateName name) right r ∙ two (λ a b. a ++ b) (expr_PrivateName [] name) f)
        refl refl refl))

    yield_none : own x ts l.Yield q ≡ [] → Ex x ts l.Yield q (vExpr.Yield false None r)
    yield_none e = expr_by x ts l.Yield q _ (vExpr.Yield false None r) (Expr-F.Yield false None r)
        (vExpr.rolls-Yield false None r) (expr_Yield [] false None r ∙ sym e) refl refl refl

    yield_by : (a : Value) (b : Part) → Is x ts a b → own x ts l.Yield q ≡ inside (λ g. at g 1) b
        → Opt (Ex x ts l.Yield q) (yield_of r a)
    yield_by a b none e = yield_none e
    yield_by a b nothing e = yield_none e
    yield_by a b (same n) e = yield_none e
    yield_by a b (made from to m label c s i) e = yield_none e
    yield_by a b (both c d m s i j) e =
        map_fine (Of sites_of_expr (at (more d s) 1)) (Ex x ts l.Yield q) (v.expr_at (v.more c m) 1) _
        (expr_in x ts 1 (v.more c m) (more d s) (both c d m s i j)) (λ arg f.
        expr_by x ts l.Yield q _ (vExpr.Yield (v.is_there (v.group (v.more c m) 0)) (Some arg) r)
        (Expr-F.Yield (v.is_there (v.group (v.more c m) 0)) (Some arg) r)
        (vExpr.rolls-Yield (v.is_there (v.group (v.more c m) 0)) (Some arg) r)
        (expr_Yield [] _ (Some arg) r ∙ f ∙ sym e)
        refl refl refl)

    pub yield_is : Opt (Ex x ts l.Yield q) (yield_ r p)
    unfolding yield_
    yield_is = yield_by (v.group p 0) (group q 0) (group_is x ts p q 0 h) refl

    pub template_post_is : Opt (PostIs (at q 0)) (template_post r p)
    unfolding template_post
    template_post_is =
        map_fine (Of sites_of_expr (at q 0)) (PostIs (at q 0)) (v.expr_at p 0) (tagged_of r) (expr_in x ts 0 p q h)
        (λ tpl f.
        post_by x ts r p q h (at q 0) (tagged_of r tpl) (λ start e. Expr-F.TaggedTpl e None tpl _)
        (λ start e. vExpr.rolls-TaggedTpl e None tpl _)
        (λ start e. expr_TaggedTpl [] e None tpl _ ∙ ap (λ s. sites_of_expr e ++ s) f)
        (λ start e. refl) (λ start e. refl) (λ start e. refl))

    pub optional_post_is : Opt (PostIs (own x ts l.OptionalPost q)) (optional_post x ts r p)
    unfolding optional_post
    optional_post_is =
        optional_is r (v.part (v.group p 0) 0) (part (group q 0) 0)
        (part_is x ts (v.group p 0) (group q 0) 0 (group_is x ts p q 0 h))
