-- The sites of objects, and the attribute that an object gives an `import()`.
use Rattle.std.specs.Prelude.{Bool, true, false, not, ◌&&◌, List, [], ◌∷◌, ◌++◌, Option, Some, None, option_map, fold, codes, if◌then◌else◌}
use Rattle.std.specs.List.{flat_map}
use Rattle.std.proofs.Common.{◌≡◌, ℕ, refl, sym, ap, ◌∙◌, subst}
use Rattle.base.specs.declared.range.Range.{Range}
use Rattle.es_token.specs.declared.token.Token.{Token}
use Rattle.es_ast.specs.declared.leaf.Lit.TheVariants as vLit
use Rattle.es_ast.specs.declared.ast.Expr.{Expr, roll-Expr, out-Expr, out-roll-Expr}
use Rattle.es_ast.specs.declared.ast.Expr.TheVariants as vExpr
use Rattle.es_ast.specs.declared.ast.Prop.{Prop, out-Prop, out-roll-Prop}
use Rattle.es_ast.specs.declared.ast.Prop.TheVariants as vProp
use Rattle.es_ast.specs.declared.ast.ClassMember.TheOpen.{Expr-F, Prop-F}
use Rattle.es_grammar.specs.declared.rows.NodeKind.{NodeKind}
use Rattle.es_grammar.specs.declared.rows.NodeKind.TheVariants as l
use Rattle.es_site.specs.Parts.{ExprParts, PropParts}
use Rattle.es_site.specs.declared.site.Attribute.{Attribute}
use Rattle.es_site.specs.declared.site.Attribute.TheVariants.{Unknown}
use Rattle.es_site.specs.Attributes.{says, is_name, plain_part, given_part, or_before, last_given, type_part, type_attribute, with_part, with_attribute, options_part}
use Rattle.es_site.specs.Attributes as attrs
use Rattle.es_site.specs.Sites.{Found, sites_of_expr, sites_of_prop}
use Rattle.es_site.proofs.Equations.{expr_Ident, expr_Lit, expr_Object, prop_KeyValue, prop_Shorthand}
use Rattle.es_lowering.specs.Value.{Typed, Value, given, typed}
use Rattle.es_lowering.specs.Value as v
use Rattle.es_lowering.specs.Texts.{ident_at, ident_of, str_of, token_of}
use Rattle.es_lowering.specs.Functions.{word_key, str_key, computed_key, key_value, shorthand}
use Rattle.es_lowering.specs.Expressions.{object_literal}
use Rattle.es_law_sites.proofs.ranges.Cuts.{Opt}
use Rattle.es_law_sites.specs.plain.Part.{Part, absent, nil, more, token, node, part, as_group, group, found, at, each, turns}
use Rattle.es_law_sites.specs.plain.Own as o
use Rattle.es_law_sites.specs.plain.Own.{token_in, own}
use Rattle.es_law_sites.proofs.plain.Given.{given_fine, map_fine, map_any}
use Rattle.es_law_sites.proofs.plain.Is.{Of, KeyIs, PropIs, ValueIs, GivenIs, Is, none, nothing, both, same, made, part_is, as_group_is, group_is, token_is, str_view, expr_in}
use Rattle.es_law_sites.proofs.plain.Exprs.{two, Ex, expr_by}
use Rattle.es_law_sites.proofs.plain.Calls.{value_in, value_sites, value_str}

module _ (x : List ℕ) (ts : List Token) where
  -- ---- what an object gives
  type_view : (it : ExprParts) → type_part it ≡ o.type_by x ts (str_view it)
  type_view (Expr-F.Lit (vLit.Str s)) = refl
  type_view (Expr-F.Lit _) = refl
  type_view _ = refl

  type_is : (e : Option Expr) (w : Option Part) → GivenIs x ts e w → type_attribute e ≡ o.type_in x ts w
  type_is (Some e) (Some w) h = type_view (out-Expr e) ∙ ap (o.type_by x ts) (value_str x ts w e h)
  type_is None None h = refl
  type_is (Some e) None h = absurd h
  type_is None (Some w) h = absurd h

  with_is : (e : Option Expr) (w : Option Part) → GivenIs x ts e w → with_attribute e ≡ o.with_in x ts w
  with_is (Some e) (Some (node label q s)) h = h.with
  with_is (Some e) (Some absent) h = absurd h
  with_is (Some e) (Some nil) h = absurd h
  with_is (Some e) (Some (more a b)) h = absurd h
  with_is (Some e) (Some (token n)) h = absurd h
  with_is None None h = refl
  with_is (Some e) None h = absurd h
  with_is None (Some w) h = absurd h

  -- ---- properties
  PropOf : Part → Prop → Type 0
  PropOf (node label q s) prop = PropIs x ts label q s prop
  PropOf _ prop = ⊥

  PropsAre : Part → List Prop → Type 0
  PropsAre (more b s) (prop ∷ rest) = PropOf (part (as_group b) 0) prop × PropsAre s rest
  PropsAre (more b s) [] = ⊥
  PropsAre _ [] = Unit {0}
  PropsAre _ (prop ∷ rest) = ⊥

  prop_in : (p : Value) (q : Part) → Is x ts p q → Opt (PropOf q) (given (typed p) (λ m. m.prop))
  unfolding PropOf
  prop_in p q none = tt
  prop_in p q nothing = tt
  prop_in p q (both a b r s h i) = tt
  prop_in p q (same n) = tt
  prop_in p q (made from to m label r s h) = h.prop

  props_in : (p : Value) (q : Part) → Is x ts p q → Opt (PropsAre q) (v.turns (λ turn. v.prop_at turn 0) p)
  unfolding PropsAre
  props_in p q none = tt
  props_in p q nothing = tt
  props_in p q (both a b r s h i) =
      given_fine (PropOf (part (as_group b) 0)) (PropsAre (more b s)) (v.prop_at (v.as_group a) 0) _
      (prop_in (v.part (v.as_group a) 0) (part (as_group b) 0)
      (part_is x ts (v.as_group a) (as_group b) 0 (as_group_is x ts a b h))) (λ it f.
      given_fine (PropsAre s) (PropsAre (more b s)) (v.turns (λ turn. v.prop_at turn 0) r) _ (props_in r s i) (λ rest g.
      (f, g)))
  props_in p q (same n) = tt
  props_in p q (made from to m label r s h) = tt

  one_sites : (w : Part) (prop : Prop) → PropOf w prop → sites_of_prop prop ≡ found w
  unfolding PropOf
  one_sites (node label q s) prop h = h.sites
  one_sites absent prop h = absurd h
  one_sites nil prop h = absurd h
  one_sites (more a b) prop h = absurd h
  one_sites (token n) prop h = absurd h

  one_plain : (w : Part) (prop : Prop) → PropOf w prop → attrs.is_plain prop ≡ o.is_plain x ts w
  unfolding PropOf
  one_plain (node label q s) prop h = h.plain
  one_plain absent prop h = absurd h
  one_plain nil prop h = absurd h
  one_plain (more a b) prop h = absurd h
  one_plain (token n) prop h = absurd h

  one_gives : (w : Part) (prop : Prop) → PropOf w prop → (word : List ℕ) (last : Option Expr) (before : Option Part)
      → GivenIs x ts last before
      → GivenIs x ts (or_before (given_part word (out-Prop prop)) last) (o.given_in x ts word w before)
  unfolding PropOf
  one_gives (node label q s) prop h = h.gives
  one_gives absent prop h = absurd h
  one_gives nil prop h = absurd h
  one_gives (more a b) prop h = absurd h
  one_gives (token n) prop h = absurd h

  props_sites : (q : Part) (props : List Prop) → PropsAre q props
      → flat_map sites_of_prop props ≡ each (λ turn. at turn 0) q
  unfolding PropsAre
  props_sites (more b s) (prop ∷ rest) h =
      two (λ k m. k ++ m) (one_sites (part (as_group b) 0) prop h.0) (props_sites s rest h.1)
  props_sites (more b s) [] h = absurd h
  props_sites absent [] h = refl
  props_sites nil [] h = refl
  props_sites (token n) [] h = refl
  props_sites (node label r s) [] h = refl
  props_sites absent (prop ∷ rest) h = absurd h
  props_sites nil (prop ∷ rest) h = absurd h
  props_sites (token n) (prop ∷ rest) h = absurd h
  props_sites (node label r s) (prop ∷ rest) h = absurd h

  props_plain : (q : Part) (props : List Prop) (so : Bool) → PropsAre q props
      → fold (λ so p. so && attrs.is_plain p) so props ≡ o.are_plain x ts so q
  unfolding PropsAre
  props_plain (more b s) (prop ∷ rest) so h =
      ap (λ k. fold (λ so p. so && attrs.is_plain p) (so && k) rest) (one_plain (part (as_group b) 0) prop h.0)
      ∙ props_plain s rest (so && o.is_plain x ts (part (as_group b) 0)) h.1
  props_plain (more b s) [] so h = absurd h
  props_plain absent [] so h = refl
  props_plain nil [] so h = refl
  props_plain (token n) [] so h = refl
  props_plain (node label r s) [] so h = refl
  props_plain absent (prop ∷ rest) so h = absurd h
  props_plain nil (prop ∷ rest) so h = absurd h
  props_plain (token n) (prop ∷ rest) so h = absurd h
  props_plain (node label r s) (prop ∷ rest) so h = absurd h

  props_give : (word : List ℕ) (q : Part) (props : List Prop) (last : Option Expr) (before : Option Part)
      → GivenIs x ts last before → PropsAre q props
      → GivenIs x ts (fold (λ last p. or_before (given_part word (out-Prop p)) last) last props)
      (o.last_given x ts word before q)
  unfolding PropsAre
  props_give word (more b s) (prop ∷ rest) last before g h =
      props_give word s rest (or_before (given_part word (out-Prop prop)) last)
      (o.given_in x ts word (part (as_group b) 0) before) (one_gives (part (as_group b) 0) prop h.0 word last before g)
      h.1
  props_give word (more b s) [] last before g h = absurd h
  props_give word absent [] last before g h = g
  props_give word nil [] last before g h = g
  props_give word (token n) [] last before g h = g
  props_give word (node label r s) [] last before g h = g
  props_give word absent (prop ∷ rest) last before g h = absurd h
  props_give word nil (prop ∷ rest) last before g h = absurd h
  props_give word (token n) (prop ∷ rest) last before g h = absurd h
  props_give word (node label r s) (prop ∷ rest) last before g h = absurd h

  if_same : (a b : Bool) (c d : Attribute) → a ≡ b → c ≡ d → (if a then c else Unknown) ≡ (if b then d else Unknown)
  if_same a b c d e f = two (λ (k : Bool) (m : Attribute). if k then m else Unknown) e f

  module _ (r : Range) (p : Value) (q : Part) (h : Is x ts p q) where
    pub object_literal_is : Opt (Ex x ts l.ObjectLiteral q) (object_literal r p)
    unfolding object_literal
    object_literal_is =
        map_fine (PropsAre (group q 0)) (Ex x ts l.ObjectLiteral q) (v.turns (λ turn. v.prop_at turn 0) (v.group p 0)) _
        (props_in (v.group p 0) (group q 0) (group_is x ts p q 0 h)) (λ props f.
        expr_by x ts l.ObjectLiteral q (turns q 0 0) (vExpr.Object props r) (Expr-F.Expr::Object props r)
        (vExpr.rolls-Object props r) (expr_Object [] props r ∙ props_sites (group q 0) props f) refl
        (if_same _ _ _ _ (props_plain (group q 0) props true f)
        (with_is _ _ (props_give (codes "with") (group q 0) props None None tt f)))
        (if_same _ _ _ _ (props_plain (group q 0) props true f)
        (type_is _ _ (props_give (codes "type") (group q 0) props None None tt f))))

    -- ---- keys
    pub key_by : (label : NodeKind) (s : Found) (key : Bool × Expr) (it : ExprParts) → roll-Expr it ≡ key.1
        → sites_of_expr key.1 ≡ s → (not key.0 && is_name it ≡ o.is_word_key x ts (node label q s))
        → ((word : List ℕ) → not key.0 && says word it ≡ o.key_says x ts word (node label q s))
        → KeyIs x ts label q s key
    key_by label s key it rolls sites a b =
        let is : out-Expr key.1 ≡ it = sym (ap out-Expr rolls) ∙ out-roll-Expr it in
        record {
          sites = sites;
          named = ap (λ k. not key.0 && is_name k) is ∙ a;
          says = λ word. ap (λ k. not key.0 && says word k) is ∙ b word;
        }

    pub word_key_is : Opt (KeyIs x ts l.WordKey q (own x ts l.WordKey q)) (word_key x ts p)
    unfolding word_key
    word_key_is = go (token_of ts (v.part p 0)) (token_is x ts (v.part p 0) (part q 0) (part_is x ts p q 0 h))
      where
        go : (t : Option Token) → t ≡ token_in x ts (part q 0)
            → Opt (KeyIs x ts l.WordKey q [])
            (option_map (λ name. (false, vExpr.Ident name)) (option_map (ident_of x) t))
        go None e = tt
        go (Some t) e =
            key_by l.WordKey [] (false, vExpr.Ident (ident_of x t)) (Expr-F.Expr::Ident (ident_of x t))
            (vExpr.rolls-Ident (ident_of x t)) (expr_Ident [] (ident_of x t)) refl
            (λ word. ap (o.same_word x ts word) e)

    pub str_key_is : Opt (KeyIs x ts l.StrKey q (own x ts l.StrKey q)) (str_key x ts p)
    unfolding str_key
    str_key_is = go (token_of ts (v.part p 0)) (token_is x ts (v.part p 0) (part q 0) (part_is x ts p q 0 h))
      where
        go : (t : Option Token) → t ≡ token_in x ts (part q 0)
            → Opt (KeyIs x ts l.StrKey q [])
            (option_map (λ s. (false, vExpr.Lit (vLit.Str s))) (option_map (str_of x) t))
        go None e = tt
        go (Some t) e =
            key_by l.StrKey [] (false, vExpr.Lit (vLit.Str (str_of x t))) (Expr-F.Lit (vLit.Str (str_of x t)))
            (vExpr.rolls-Lit (vLit.Str (str_of x t))) (expr_Lit [] (vLit.Str (str_of x t))) refl
            (λ word. ap (λ k. o.same_str x ts word (option_map (str_of x) k)) e)

    pub computed_key_is : Opt (KeyIs x ts l.ComputedKey q (own x ts l.ComputedKey q)) (computed_key p)
    unfolding computed_key
    computed_key_is =
        map_fine (Of sites_of_expr (at q 0)) (KeyIs x ts l.ComputedKey q (at q 0)) (v.expr_at p 0) _
        (expr_in x ts 0 p q h) (λ e f. record { sites = f; named = refl; says = λ word. refl })

    -- ---- properties
    KeyOf : Part → Bool × Expr → Type 0
    KeyOf (node label q s) key = KeyIs x ts label q s key
    KeyOf _ key = ⊥

    key_in : (p : Value) (q : Part) → Is x ts p q → Opt (KeyOf q) (given (typed p) (λ m. m.key))
    unfolding KeyOf
    key_in p q none = tt
    key_in p q nothing = tt
    key_in p q (both a b r s h i) = tt
    key_in p q (same n) = tt
    key_in p q (made from to m label r s h) = h.key

    key_value_by : (w : Part) (key : Bool × Expr) (value : Expr) → KeyOf w key → ValueIs x ts (part q 1) value
        → w ≡ part q 0 → PropIs x ts l.KeyValue q (at q 0 ++ at q 1) (vProp.KeyValue key.0 key.1 value r)
    unfolding KeyOf
    key_value_by (node label m s) key value f g e =
        let it : PropParts = Prop-F.Prop::KeyValue key.0 key.1 value r in
        let is : out-Prop (vProp.KeyValue key.0 key.1 value r) ≡ it =
        sym (ap out-Prop (vProp.rolls-KeyValue key.0 key.1 value r)) ∙ out-roll-Prop it in
        record {
          sites = prop_KeyValue [] key.0 key.1 value r
              ∙ two (λ a b. a ++ b) (f.sites ∙ ap found e) (value_sites x ts (part q 1) value g);
          plain = ap plain_part is ∙ plain_by key.0 key.1 ∙ f.named ∙ ap (o.is_word_key x ts) e;
          gives = λ word last before h.
              (let P : PropParts → Type 0 = λ k. GivenIs x ts (or_before (given_part word k) last)
              (o.given_in x ts word (node l.KeyValue q (at q 0 ++ at q 1)) before) in
              subst P (sym is) (gives_by word key.0 key.1 last before (f.says word ∙ ap (o.key_says x ts word) e) h));
        }
      where
        plain_by : (computed : Bool) (k : Expr)
            → plain_part (Prop-F.Prop::KeyValue computed k value r) ≡ not computed && is_name (out-Expr k)
        plain_by true k = refl
        plain_by false k = refl

        either : (a b : Bool) (last : Option Expr) (before : Option Part) → a ≡ b → GivenIs x ts last before
            → GivenIs x ts (or_before (if a then Some value else None) last) (if b then Some (part q 1) else before)
        either a true last before e h =
            let P : Bool → Type 0 =
            λ k. GivenIs x ts (or_before (if k then Some value else None) last) (Some (part q 1)) in
            subst P (sym e) g
        either a false last before e h =
            let P : Bool → Type 0 = λ k. GivenIs x ts (or_before (if k then Some value else None) last) before in
            subst P (sym e) h

        gives_by : (word : List ℕ) (computed : Bool) (k : Expr) (last : Option Expr) (before : Option Part)
            → (not computed && says word (out-Expr k) ≡ o.key_says x ts word (part q 0)) → GivenIs x ts last before
            → GivenIs x ts (or_before (given_part word (Prop-F.Prop::KeyValue computed k value r)) last)
            (if o.key_says x ts word (part q 0) then Some (part q 1) else before)
        gives_by word true k last before e h = either false (o.key_says x ts word (part q 0)) last before e h
        gives_by word false k last before e h =
            either (says word (out-Expr k)) (o.key_says x ts word (part q 0)) last before e h
    key_value_by absent key value f g e = absurd f
    key_value_by nil key value f g e = absurd f
    key_value_by (more a b) key value f g e = absurd f
    key_value_by (token n) key value f g e = absurd f

    pub key_value_is : Opt (PropIs x ts l.KeyValue q (own x ts l.KeyValue q)) (key_value r p)
    unfolding key_value
    key_value_is =
        given_fine (KeyOf (part q 0)) (PropIs x ts l.KeyValue q (at q 0 ++ at q 1)) (v.key_at p 0) _
        (key_in (v.part p 0) (part q 0) (part_is x ts p q 0 h)) (λ key f.
        given_fine (ValueIs x ts (part q 1)) (PropIs x ts l.KeyValue q (at q 0 ++ at q 1)) (v.expr_at p 1) _
        (value_in x ts (v.part p 1) (part q 1) (part_is x ts p q 1 h)) (λ value g.
        key_value_by (part q 0) key value f g refl))

    pub shorthand_is : Opt (PropIs x ts l.Shorthand q (own x ts l.Shorthand q)) (shorthand x ts p)
    unfolding shorthand
    shorthand_is =
        map_any (PropIs x ts l.Shorthand q []) (ident_at x ts p 0) vProp.Shorthand (λ it.
        (let is : out-Prop (vProp.Shorthand it) ≡ Prop-F.Shorthand it =
        sym (ap out-Prop (vProp.rolls-Shorthand it)) ∙ out-roll-Prop (Prop-F.Shorthand it) in
        record {
          sites = prop_Shorthand [] it;
          plain = ap plain_part is;
          gives = λ word last before h.
              (let P : PropParts → Type 0 = λ k. GivenIs x ts (or_before (given_part word k) last) before in
              subst P (sym is) h);
        }))
