-- The sites of chains and of `import()`.
use Rattle.std.specs.Prelude.{Bool, true, false, List, [], ◌∷◌, ◌++◌, Option, Some, None}
use Rattle.std.specs.List.{flat_map}
use Rattle.std.proofs.Common.{◌≡◌, ℕ, refl, sym, ap, ◌∙◌}
use Rattle.std.proofs.lemmas.List.{append-nil, append_assoc}
use Rattle.base.specs.declared.range.Range.{Range}
use Rattle.es_token.specs.declared.token.Token.{Token}
use Rattle.es_ast.specs.declared.leaf.Lit.TheVariants as vLit
use Rattle.es_ast.specs.declared.leaf.ImportPhase.{ImportPhase}
use Rattle.es_ast.specs.declared.leaf.ImportPhase.TheVariants as vPhase
use Rattle.es_ast.specs.declared.ast.Expr.{Expr, roll-Expr, out-Expr, out-roll-Expr}
use Rattle.es_ast.specs.declared.ast.Expr.TheVariants as vExpr
use Rattle.es_ast.specs.declared.ast.ClassMember.TheOpen.{Expr-F}
use Rattle.es_grammar.specs.declared.rows.NodeKind.{NodeKind}
use Rattle.es_grammar.specs.declared.rows.NodeKind.TheVariants as l
use Rattle.es_site.specs.Parts.{ExprParts}
use Rattle.es_site.specs.declared.site.Attribute.TheVariants.{Unknown}
use Rattle.es_site.specs.Attributes.{options_attribute, options_part, with_part}
use Rattle.es_site.specs.Sites.{Found, call_kind, first_argument, sites_of_expr}
use Rattle.es_site.proofs.Equations.{expr_ImportCall, expr_Member, expr_Index, expr_Spread}
use Rattle.es_lowering.specs.Value.{Typed, Value, given, typed}
use Rattle.es_lowering.specs.Value as v
use Rattle.es_lowering.specs.Texts.{span_of, property_at}
use Rattle.es_lowering.specs.Expressions.{Post, argument_of, argument, arguments, member_of, index_of, member_post, index_post, chained, chain, import_call}
use Rattle.es_law_sites.proofs.ranges.Cuts.{Opt}
use Rattle.es_law_sites.specs.plain.Part.{Part, absent, nil, more, token, node, part, as_group, group, found, at, inside, each, turns}
use Rattle.es_law_sites.specs.plain.Own.{src_by, src_in, with_by, options_by, options_of, options_in, naming, called, own}
use Rattle.es_law_sites.proofs.plain.Given.{given_fine, map_fine, map_any}
use Rattle.es_law_sites.proofs.plain.Is.{Of, PostIs, ValueIs, Is, none, nothing, both, same, made, part_is, as_group_is, group_is, str_view, expr_in, post_in, turns_in}
use Rattle.es_law_sites.proofs.plain.Exprs.{two, Ex, expr_by}

-- a list, each with its sites
pub data ListIs {A : Type 0} (P : Found → A → Type 0) : Found → List A → Type 0 where
  no_more : ListIs P [] []
  one_more : (s t : Found) (a : A) (rest : List A) → P s a → ListIs P t rest → ListIs P (s ++ t) (a ∷ rest)

-- neither a literal nor an object
pub record IsOther (e : Expr) : Type 0 where
  pub str : str_view (out-Expr e) ≡ None
  pub options : options_part (out-Expr e) ≡ Unknown
  pub with : with_part (out-Expr e) ≡ Unknown

pub chained_is : (start : ℕ) (obj : Expr) (s : Found) (posts : List Post) → ListIs PostIs s posts → IsOther obj
    → (sites_of_expr (chained start obj posts) ≡ sites_of_expr obj ++ s) × IsOther (chained start obj posts)
chained_is start obj s posts no_more other = (sym (append-nil (sites_of_expr obj)), other)
chained_is start obj s posts (one_more a b post rest f g) other =
    let next = chained_is start (post start obj) b rest g
    (record { str = f.str start obj; options = f.options start obj; with = f.with start obj }) in
    (next.0 ∙ ap (λ k. k ++ b) (f.sites start obj) ∙ append_assoc (sites_of_expr obj) a b, next.1)

module _ (x : List ℕ) (ts : List Token) where
  -- a literal, as the first argument of a call
  first_by : (phase : ImportPhase) (it : ExprParts) (rest : List Expr)
      → first_argument phase it rest ≡ naming x ts (call_kind phase) false (options_attribute rest) (str_view it)
  first_by phase (Expr-F.Lit (vLit.Str s)) rest = refl
  first_by phase (Expr-F.Lit _) rest = refl
  first_by phase _ rest = refl

  pub value_in : (p : Value) (q : Part) → Is x ts p q → Opt (ValueIs x ts q) (given (typed p) (λ m. m.expr))
  value_in p q none = tt
  value_in p q nothing = tt
  value_in p q (both a b r s h i) = tt
  value_in p q (same n) = tt
  value_in p q (made from to m label r s h) = h.expr

  pub value_sites : (w : Part) (e : Expr) → ValueIs x ts w e → sites_of_expr e ≡ found w
  value_sites (node label q s) e h = h.sites
  value_sites absent e h = absurd h
  value_sites nil e h = absurd h
  value_sites (more a b) e h = absurd h
  value_sites (token n) e h = absurd h

  pub value_str : (w : Part) (e : Expr) → ValueIs x ts w e → str_view (out-Expr e) ≡ src_in x ts w
  value_str (node label q s) e h = h.str
  value_str absent e h = absurd h
  value_str nil e h = absurd h
  value_str (more a b) e h = absurd h
  value_str (token n) e h = absurd h

  pub value_options : (w : Part) (e : Expr) → ValueIs x ts w e → options_part (out-Expr e) ≡ options_of x ts w
  value_options (node label q s) e h = h.options
  value_options absent e h = absurd h
  value_options nil e h = absurd h
  value_options (more a b) e h = absurd h
  value_options (token n) e h = absurd h

  SecondIs : Part → Option Expr → Type 0
  SecondIs q second =
      (flat_map sites_of_expr (v.option_list second) ≡ inside (λ g. at g 0) q)
      × (options_attribute (v.option_list second) ≡ options_in x ts q)

  second_is : (p : Value) (q : Part) → Is x ts p q → Opt (SecondIs q) (v.optional v.expr_at p)
  unfolding SecondIs
  second_is p q none = (refl, refl)
  second_is p q nothing = (refl, refl)
  second_is p q (both a b r s h i) =
      map_fine (ValueIs x ts b) (SecondIs (more b s)) (given (typed a) (λ (m : Typed). m.expr)) Some
      (value_in a b h) (λ e f.
      (append-nil (sites_of_expr e) ∙ value_sites b e f, value_options b e f))
  second_is p q (same n) = (refl, refl)
  second_is p q (made from to m label r s h) = (refl, refl)

  module _ (r : Range) (p : Value) (q : Part) (h : Is x ts p q) where
    call_by : (label : NodeKind) (phase : ImportPhase) → called x ts (call_kind phase) q ≡ own x ts label q
        → None ≡ src_by x ts label q → Unknown ≡ options_by x ts label q → Unknown ≡ with_by x ts label q
        → Opt (Ex x ts label q) (import_call phase r p)
    unfolding import_call SecondIs
    call_by label phase sites str options with =
        given_fine (ValueIs x ts (part q 0)) (Ex x ts label q) (v.expr_at p 0) _
        (value_in (v.part p 0) (part q 0) (part_is x ts p q 0 h)) (λ first f.
        given_fine (SecondIs (group q 1)) (Ex x ts label q) (v.optional v.expr_at (v.group p 1)) _
        (second_is (v.group p 1) (group q 1) (group_is x ts p q 1 h)) (λ second g.
        (let args = first ∷ v.option_list second in
        expr_by x ts label q (own x ts label q) (vExpr.ImportCall phase args r) (Expr-F.ImportCall phase args r)
        (vExpr.rolls-ImportCall phase args r)
        (expr_ImportCall [] phase args r
        ∙ two (λ a b. a ++ b)
        (first_by phase (out-Expr first) (v.option_list second)
        ∙ two (naming x ts (call_kind phase) false) g.1 (value_str (part q 0) first f))
        (two (λ a b. a ++ b) (value_sites (part q 0) first f) g.0)
        ∙ sites) str options with)))

    pub import_call_is : Opt (Ex x ts l.ImportCall q) (import_call vPhase.Evaluation r p)
    import_call_is = call_by l.ImportCall vPhase.Evaluation refl refl refl refl

    pub source_call_is : Opt (Ex x ts l.SourceCall q) (import_call vPhase.Source r p)
    source_call_is = call_by l.SourceCall vPhase.Source refl refl refl refl

    pub defer_call_is : Opt (Ex x ts l.DeferCall q) (import_call vPhase.Defer r p)
    defer_call_is = call_by l.DeferCall vPhase.Defer refl refl refl refl

    -- ---- chains
    pub post_by : (s : Found) (post : Post) (it : ℕ → Expr → ExprParts)
        → ((start : ℕ) (e : Expr) → roll-Expr (it start e) ≡ post start e)
        → ((start : ℕ) (e : Expr) → sites_of_expr (post start e) ≡ sites_of_expr e ++ s)
        → ((start : ℕ) (e : Expr) → str_view (it start e) ≡ None)
        → ((start : ℕ) (e : Expr) → options_part (it start e) ≡ Unknown)
        → ((start : ℕ) (e : Expr) → with_part (it start e) ≡ Unknown) → PostIs s post
    post_by s post it rolls sites a b c = record {
      sites = sites;
      str = λ start e. ap str_view (sym (ap out-Expr (rolls start e)) ∙ out-roll-Expr (it start e)) ∙ a start e;
      options = λ start e. ap options_part (sym (ap out-Expr (rolls start e)) ∙ out-roll-Expr (it start e)) ∙ b start e;
      with = λ start e. ap with_part (sym (ap out-Expr (rolls start e)) ∙ out-roll-Expr (it start e)) ∙ c start e;
    }

    pub member_post_is : Opt (PostIs (own x ts l.MemberPost q)) (member_post x ts r p)
    unfolding member_post
    member_post_is =
        map_any (PostIs []) (property_at x ts p 0) (member_of false r) (λ m.
        post_by [] (member_of false r m) (λ start e. Expr-F.Member e false m.0 m.1 _)
        (λ start e. vExpr.rolls-Member e false m.0 m.1 _)
        (λ start e. expr_Member [] e false m.0 m.1 _ ∙ sym (append-nil (sites_of_expr e)))
        (λ start e. refl) (λ start e. refl) (λ start e. refl))

    pub index_post_is : Opt (PostIs (own x ts l.IndexPost q)) (index_post r p)
    unfolding index_post
    index_post_is =
        map_fine (Of sites_of_expr (at q 0)) (PostIs (at q 0)) (v.expr_at p 0) (index_of false r)
        (expr_in x ts 0 p q h) (λ i f.
        post_by (at q 0) (index_of false r i) (λ start e. Expr-F.Index e false i _)
        (λ start e. vExpr.rolls-Index e false i _)
        (λ start e. expr_Index [] e false i _ ∙ ap (λ s. sites_of_expr e ++ s) f)
        (λ start e. refl) (λ start e. refl) (λ start e. refl))

    turns_each : {A : Type 0} (P : Found → A → Type 0) (one : Value → Option A) (of : Part → Found)
        → ((p : Value) (q : Part) → Is x ts p q → Opt (P (of q)) (one p))
        → (p : Value) (q : Part) → Is x ts p q → Opt (ListIs P (each of q)) (v.turns one p)
    turns_each P one of here p q none = no_more
    turns_each P one of here p q nothing = no_more
    turns_each P one of here p q (both a b r s h i) =
        given_fine (P (of (as_group b))) (ListIs P (of (as_group b) ++ each of s)) (one (v.as_group a)) _
        (here (v.as_group a) (as_group b) (as_group_is x ts a b h)) (λ it f.
        given_fine (ListIs P (each of s)) (ListIs P (of (as_group b) ++ each of s)) (v.turns one r) _
        (turns_each P one of here r s i) (λ rest g. one_more (of (as_group b)) (each of s) it rest f g))
    turns_each P one of here p q (same n) = no_more
    turns_each P one of here p q (made from to m label r s h) = no_more

    pub chain_is : Opt (Ex x ts l.Chain q) (chain r p)
    unfolding chain
    chain_is =
        given_fine (Of sites_of_expr (at q 0)) (Ex x ts l.Chain q) (v.expr_at p 0) _ (expr_in x ts 0 p q h) (λ base e.
        given_fine (PostIs (at q 1)) (Ex x ts l.Chain q) (v.post_at p 1) _ (post_in x ts 1 p q h) (λ first f.
        given_fine (ListIs PostIs (turns q 2 0)) (Ex x ts l.Chain q) (v.turns (λ turn. v.post_at turn 0) (v.group p 2))
        _
        (turns_each PostIs (λ turn. v.post_at turn 0) (λ turn. at turn 0) (λ a b i. post_in x ts 0 a b i)
        (v.group p 2) (group q 2) (group_is x ts p q 2 h)) (λ others g.
        (let all = chained_is r.start (first r.start base) (turns q 2 0) others g
        (record { str = f.str r.start base; options = f.options r.start base; with = f.with r.start base }) in
        record {
          sites = all.0 ∙ ap (λ k. k ++ turns q 2 0) (f.sites r.start base ∙ ap (λ k. k ++ at q 1) e)
              ∙ append_assoc (at q 0) (at q 1) (turns q 2 0);
          str = all.1.str;
          options = all.1.options;
          with = all.1.with;
        }))))

    -- ---- arguments
    argument_of_is : (there : Bool) (s : Range) (e : Expr) → sites_of_expr (argument_of there s e) ≡ sites_of_expr e
    argument_of_is true s e = expr_Spread [] e s
    argument_of_is false s e = refl

    pub arguments_is : Opt (Of (flat_map sites_of_expr) (own x ts l.Arguments q)) (arguments ts p)
    unfolding arguments
    arguments_is =
        turns_in x ts sites_of_expr (argument ts) (λ turn. at turn 1)
        (λ a b i. map_fine (Of sites_of_expr (at b 1)) (Of sites_of_expr (at b 1)) (v.expr_at a 1) _
        (expr_in x ts 1 a b i) (λ e f. argument_of_is (v.is_there (v.group a 0))
        (span_of ts (v.first_of (v.part (v.group a 0) 0)) (v.behind (v.part a 1))) e ∙ f))
        (v.group p 0) (group q 0) (group_is x ts p q 0 h)
