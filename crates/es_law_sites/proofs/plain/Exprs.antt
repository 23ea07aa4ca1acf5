-- The sites of what expressions become are those of their plain trees.
use Rattle.std.specs.Prelude.{false, List, [], ◌∷◌, ◌++◌, Option, Some, None, option_map}
use Rattle.std.specs.List.{flat_map}
use Rattle.std.proofs.Common.{◌≡◌, ℕ, refl, sym, ap, ◌∙◌}
use Rattle.base.specs.declared.range.Range.{Range}
use Rattle.es_token.specs.declared.token.Token.{Token}
use Rattle.es_ast.specs.declared.leaf.Lit.TheVariants as vLit
use Rattle.es_ast.specs.declared.leaf.AssignOp.TheVariants as vAssign
use Rattle.es_ast.specs.declared.ast.Expr.{Expr, roll-Expr, out-Expr, out-roll-Expr}
use Rattle.es_ast.specs.declared.ast.Expr.TheVariants as vExpr
use Rattle.es_ast.specs.declared.ast.Pat.TheVariants as vPat
use Rattle.es_ast.specs.declared.ast.ClassMember.TheOpen.{Expr-F}
use Rattle.es_grammar.specs.declared.rows.NodeKind.{NodeKind}
use Rattle.es_grammar.specs.declared.rows.NodeKind.TheVariants as l
use Rattle.es_site.specs.Parts.{ExprParts}
use Rattle.es_site.specs.declared.site.Attribute.TheVariants.{Unknown}
use Rattle.es_site.specs.Attributes.{options_part, with_part}
use Rattle.es_site.specs.Sites.{Found, sites_of_expr, sites_of_pat}
use Rattle.es_site.proofs.Equations.{expr_Ident, expr_Lit, expr_Bin, expr_Cond, expr_Paren, expr_Await, expr_Seq, expr_Assign, expr_Call, pat_Expr}
use Rattle.es_lowering.specs.Value.{Typed, Value, given, typed}
use Rattle.es_lowering.specs.Value as v
use Rattle.es_lowering.specs.Texts.{ident_at, str_of, token_of}
use Rattle.es_lowering.specs.Operators.{binary_between, assign_between}
use Rattle.es_lowering.specs.Expressions.{Post, name, str, parenthesized, await_, binary, conditional, assignment, pattern_assignment, sequence, call_of, call_post}
use Rattle.es_law_sites.proofs.ranges.Cuts.{Opt}
use Rattle.es_law_sites.specs.plain.Part.{Part, part, group, at, turns}
use Rattle.es_law_sites.specs.plain.Own.{token_in, src_by, with_by, options_by, own}
use Rattle.es_law_sites.proofs.plain.Given.{given_fine, given_any, map_fine, map_any}
use Rattle.es_law_sites.proofs.plain.Is.{Of, PostIs, ExprIs, Is, part_is, group_is, token_is, str_view, expr_in, pat_in, args_in, turns_in}

pub two : {A B C : Type 0} (f : A → B → C) {a b : A} {c d : B} → a ≡ b → c ≡ d → f a c ≡ f b d
two f {a} {b} {c} {d} e g = ap (λ y. f y c) e ∙ ap (f b) g

module _ (x : List ℕ) (ts : List Token) where
  -- an expression as a node of this alternative
  abbrev pub Ex : NodeKind → Part → Expr → Type 0
  Ex label q e = ExprIs x ts label q (own x ts label q) e

  pub expr_by : (label : NodeKind) (q : Part) (s : Found) (e : Expr) (it : ExprParts) → roll-Expr it ≡ e
      → sites_of_expr e ≡ s
      → str_view it ≡ src_by x ts label q → options_part it ≡ options_by x ts label q
      → with_part it ≡ with_by x ts label q
      → ExprIs x ts label q s e
  expr_by label q s e it rolls sites a b c =
      let is : out-Expr e ≡ it = sym (ap out-Expr rolls) ∙ out-roll-Expr it in
      record { sites = sites; str = ap str_view is ∙ a; options = ap options_part is ∙ b; with = ap with_part is ∙ c }

  module _ (r : Range) (p : Value) (q : Part) (h : Is x ts p q) where
    pub name_is : Opt (Ex l.Name q) (name x ts p)
    unfolding name
    name_is =
        map_any (Ex l.Name q) (ident_at x ts p 0) vExpr.Ident
        (λ it. expr_by l.Name q [] (vExpr.Ident it) (Expr-F.Expr::Ident it) (vExpr.rolls-Ident it) (expr_Ident [] it)
        refl refl refl)

    pub str_is : Opt (Ex l.Str q) (str x ts p)
    unfolding str
    str_is = go (token_of ts (v.part p 0)) (token_is x ts (v.part p 0) (part q 0) (part_is x ts p q 0 h))
      where
        go : (t : Option Token) → t ≡ token_in x ts (part q 0)
            → Opt (Ex l.Str q) (option_map (λ s. vExpr.Lit (vLit.Str s)) (option_map (str_of x) t))
        go None e = tt
        go (Some t) e =
            expr_by l.Str q [] (vExpr.Lit (vLit.Str (str_of x t))) (Expr-F.Lit (vLit.Str (str_of x t)))
            (vExpr.rolls-Lit (vLit.Str (str_of x t))) (expr_Lit [] (vLit.Str (str_of x t)))
            (ap (option_map (str_of x)) e) refl refl

    pub parenthesized_is : Opt (Ex l.Parenthesized q) (parenthesized r p)
    unfolding parenthesized
    parenthesized_is =
        map_fine (Of sites_of_expr (at q 0)) (Ex l.Parenthesized q) (v.expr_at p 0) _ (expr_in x ts 0 p q h) (λ e f.
        expr_by l.Parenthesized q (at q 0) (vExpr.Paren e r) (Expr-F.Paren e r) (vExpr.rolls-Paren e r)
        (expr_Paren [] e r ∙ f) refl refl refl)

    pub await_is : Opt (Ex l.AwaitExpression q) (await_ r p)
    unfolding await_
    await_is =
        map_fine (Of sites_of_expr (at q 0)) (Ex l.AwaitExpression q) (v.expr_at p 0) _ (expr_in x ts 0 p q h) (λ e f.
        expr_by l.AwaitExpression q (at q 0) (vExpr.Await e r) (Expr-F.Await e r) (vExpr.rolls-Await e r)
        (expr_Await [] e r ∙ f) refl refl refl)

    pub binary_is : Opt (Ex l.Binary q) (binary ts r p)
    unfolding binary
    binary_is =
        given_fine (Of sites_of_expr (at q 0)) (Ex l.Binary q) (v.expr_at p 0) _ (expr_in x ts 0 p q h) (λ left f.
        given_any (Ex l.Binary q) (binary_between ts (v.behind (v.part p 0)) (v.first_of (v.part p 2))) _ (λ op.
        given_fine (Of sites_of_expr (at q 2)) (Ex l.Binary q) (v.expr_at p 2) _ (expr_in x ts 2 p q h) (λ right g.
        expr_by l.Binary q (at q 0 ++ at q 2) (vExpr.Bin op left right r) (Expr-F.Bin op left right r)
        (vExpr.rolls-Bin op left right r) (expr_Bin [] op left right r ∙ two (λ a b. a ++ b) f g) refl refl refl)))

    pub conditional_is : Opt (Ex l.Conditional q) (conditional r p)
    unfolding conditional
    conditional_is =
        given_fine (Of sites_of_expr (at q 0)) (Ex l.Conditional q) (v.expr_at p 0) _ (expr_in x ts 0 p q h) (λ test e.
        given_fine (Of sites_of_expr (at q 1)) (Ex l.Conditional q) (v.expr_at p 1) _ (expr_in x ts 1 p q h) (λ yes_ f.
        given_fine (Of sites_of_expr (at q 2)) (Ex l.Conditional q) (v.expr_at p 2) _ (expr_in x ts 2 p q h) (λ other g.
        expr_by l.Conditional q (at q 0 ++ at q 1 ++ at q 2) (vExpr.Cond test yes_ other r)
        (Expr-F.Cond test yes_ other r) (vExpr.rolls-Cond test yes_ other r)
        (expr_Cond [] test yes_ other r ∙ two (λ a b. a ++ b) (two (λ a b. a ++ b) e f) g) refl refl refl)))

    pub pattern_assignment_is : Opt (Ex l.PatternAssignment q) (pattern_assignment r p)
    unfolding pattern_assignment
    pattern_assignment_is =
        given_fine (Of sites_of_pat (at q 0)) (Ex l.PatternAssignment q) (v.pat_at p 0) _ (pat_in x ts 0 p q h)
        (λ left f.
        given_fine (Of sites_of_expr (at q 1)) (Ex l.PatternAssignment q) (v.expr_at p 1) _ (expr_in x ts 1 p q h)
        (λ right g.
        expr_by l.PatternAssignment q (at q 0 ++ at q 1) (vExpr.Assign vAssign.Assign left right r)
        (Expr-F.Expr::Assign vAssign.Assign left right r) (vExpr.rolls-Assign vAssign.Assign left right r)
        (expr_Assign [] vAssign.Assign left right r ∙ two (λ a b. a ++ b) f g) refl refl refl))

    pub assignment_is : Opt (Ex l.Assignment q) (assignment ts r p)
    unfolding assignment
    assignment_is =
        given_fine (Of sites_of_expr (at q 0)) (Ex l.Assignment q) (v.expr_at p 0) _ (expr_in x ts 0 p q h) (λ left f.
        given_any (Ex l.Assignment q) (assign_between ts (v.behind (v.part p 0)) (v.first_of (v.part p 2))) _ (λ op.
        given_fine (Of sites_of_expr (at q 2)) (Ex l.Assignment q) (v.expr_at p 2) _ (expr_in x ts 2 p q h) (λ right g.
        expr_by l.Assignment q (at q 0 ++ at q 2) (vExpr.Assign op (vPat.Expr left) right r)
        (Expr-F.Expr::Assign op (vPat.Expr left) right r) (vExpr.rolls-Assign op (vPat.Expr left) right r)
        (expr_Assign [] op (vPat.Expr left) right r ∙ two (λ a b. a ++ b) (pat_Expr [] left ∙ f) g) refl refl refl)))

    pub sequence_is : Opt (Ex l.Sequence q) (sequence r p)
    unfolding sequence
    sequence_is =
        given_fine (Of sites_of_expr (at q 0)) (Ex l.Sequence q) (v.expr_at p 0) _ (expr_in x ts 0 p q h) (λ first e.
        given_fine (Of sites_of_expr (at q 1)) (Ex l.Sequence q) (v.expr_at p 1) _ (expr_in x ts 1 p q h) (λ second f.
        given_fine (Of (flat_map sites_of_expr) (turns q 2 0)) (Ex l.Sequence q)
        (v.turns (λ turn. v.expr_at turn 0) (v.group p 2)) _
        (turns_in x ts sites_of_expr (λ turn. v.expr_at turn 0) (λ turn. at turn 0) (λ a b i. expr_in x ts 0 a b i)
        (v.group p 2) (group q 2) (group_is x ts p q 2 h)) (λ others g.
        expr_by l.Sequence q (at q 0 ++ (at q 1 ++ turns q 2 0)) (vExpr.Seq (first ∷ second ∷ others) r)
        (Expr-F.Seq (first ∷ second ∷ others) r) (vExpr.rolls-Seq (first ∷ second ∷ others) r)
        (expr_Seq [] (first ∷ second ∷ others) r ∙ two (λ a b. a ++ b) e (two (λ a b. a ++ b) f g)) refl refl refl)))

    -- ---- chains
    pub call_post_is : Opt (PostIs (own x ts l.CallPost q)) (call_post r p)
    unfolding call_post
    call_post_is =
        map_fine (Of (flat_map sites_of_expr) (at q 0)) (PostIs (at q 0)) (v.args_at p 0) (call_of false r)
        (args_in x ts 0 p q h) (λ args f. post_by (at q 0) (call_of false r args)
        (λ start e. Expr-F.Call e false None args _) (λ start e. vExpr.rolls-Call e false None args _)
        (λ start e. expr_Call [] e false None args _ ∙ ap (λ s. sites_of_expr e ++ s) f)
        (λ start e. refl) (λ start e. refl) (λ start e. refl))
      where
        post_by : (s : Found) (post : Post) (it : ℕ → Expr → ExprParts)
            → ((start : ℕ) (e : Expr) → roll-Expr (it start e) ≡ post start e)
            → ((start : ℕ) (e : Expr) → sites_of_expr (post start e) ≡ sites_of_expr e ++ s)
            → ((start : ℕ) (e : Expr) → str_view (it start e) ≡ None)
            → ((start : ℕ) (e : Expr) → options_part (it start e) ≡ Unknown)
            → ((start : ℕ) (e : Expr) → with_part (it start e) ≡ Unknown) → PostIs s post
        post_by s post it rolls sites a b c = record {
          sites = sites;
          str = λ start e. ap str_view (sym (ap out-Expr (rolls start e)) ∙ out-roll-Expr (it start e)) ∙ a start e;
          options = λ start e. ap options_part (sym (ap out-Expr (rolls start e)) ∙ out-roll-Expr (it start e))
              ∙ b start e;
          with = λ start e. ap with_part (sym (ap out-Expr (rolls start e)) ∙ out-roll-Expr (it start e)) ∙ c start e;
        }
