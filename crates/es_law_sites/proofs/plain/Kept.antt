-- The law, from that of `build`.
use Rattle.std.specs.Prelude.{List, [], ◌∷◌, Option, None, map}
use Rattle.std.proofs.Common.{◌≡◌, ℕ, sym, ap, ◌∙◌, subst}
use Rattle.base.specs.declared.range.Range.{Range}
use Rattle.es_token.specs.declared.token.Token.{Token}
use Rattle.grammar_theory.specs.declared.error.Lang.{Lang}
use Rattle.grammar_theory.specs.declared.error.Mode.{Mode}
use Rattle.grammar_theory.specs.Plain.{Plain, node, leaf, nil, cons, mark, turn, via, made}
use Rattle.es_ast.specs.declared.ast.Program.{Program}
use Rattle.es_ast.specs.declared.ast.Expr.{Expr}
use Rattle.es_ast.specs.declared.ast.Pat.TheVariants as vPat
use Rattle.es_grammar.specs.declared.rows.NodeKind.{NodeKind}
use Rattle.es_grammar.specs.declared.rows.NodeKind.TheVariants as l
use Rattle.es_grammar.specs.declared.cst.tree.Cst.{Cst}
use Rattle.es_grammar.specs.declared.cst.tree.Cst.TheVariants as vCst
use Rattle.es_grammar.specs.declared.cst.tree.Cst.TheOpen.{Cst-F}
use Rattle.es_grammar.specs.declared.cst.tree.Cst.TheFolds.{fold-roll-Cst}
use Rattle.es_grammar.specs.cst.Slim.{parts_in, slim, tree_of}
use Rattle.es_site.specs.Sites.{Found, sites_of, sites_of_pat, sites_of_expr}
use Rattle.es_site.proofs.Equations.{pat_Expr}
use Rattle.es_lowering.specs.Value.{Typed, Value}
use Rattle.es_lowering.specs.Texts.{span_of}
use Rattle.es_lowering.specs.Lowering.{packed, build, target_of, as_target, value_of}
use Rattle.es_lowering.proofs.Equations.{value_leaf, value_node, value_role, value_parts}
use Rattle.es_lowering.specs.derives.Derives.{Derives}
use Rattle.es_law_sites.proofs.ranges.Cuts.{Opt}
use Rattle.es_law_sites.specs.plain.Part.{Part, found}
use Rattle.es_law_sites.specs.plain.Part as w
use Rattle.es_law_sites.specs.plain.Own.{own, part_step, part_of, plain_sites}
use Rattle.es_law_sites.proofs.plain.Equations.{part_leaf, part_node, part_role, part_parts}
use Rattle.es_law_sites.proofs.plain.Given.{map_fine}
use Rattle.es_law_sites.proofs.plain.Is.{Of, ExprIs, TypedIs, Is, head_sites, expr_sites, read}
use Rattle.es_law_sites.proofs.plain.Is as i

module _ (x : List ℕ) (ts : List Token) where
  -- ---- targets
  target_is : (label : NodeKind) (q : Part) (s : Found) (e : Option Expr) → Opt (ExprIs x ts label q s) e
      → TypedIs x ts l.Target q s (target_of x ts e)
  target_is label q s e h = record {
    expr = tt;
    pat = map_fine (Of sites_of_expr s) (Of sites_of_pat s) e vPat.Expr (expr_sites x ts label q s e h)
        (λ it f. pat_Expr [] it ∙ f);
    stmt = tt;
    decl = tt;
    item = tt;
    program = tt;
    block = tt;
    variables = tt;
    declarator = tt;
    head = map_fine (Of sites_of_expr s) (Of head_sites s) e (λ target. (None, vPat.Expr target))
        (expr_sites x ts label q s e h) (λ it f. pat_Expr [] it ∙ f);
    param = tt;
    params = tt;
    pat_prop = tt;
    prop = tt;
    member = tt;
    key = tt;
    post = tt;
    args = tt;
    attributes = tt;
    marked = tt;
    signature = tt;
    declarable = tt;
  }

  as_target_is : (p : Value) (q : Part) → Is x ts p q → Is x ts (as_target x ts p) (w.as_target q)
  as_target_is p q i.none = i.none
  as_target_is p q i.nothing = i.none
  as_target_is p q (i.both a b r s h k) = i.none
  as_target_is p q (i.same n) = i.none
  as_target_is p q (i.made from to m label r s h) =
      i.made from to (target_of x ts m.expr) l.Target r s (target_is label r s m.expr h.expr)

  moved : (a b : Value) (c d : Part) → a ≡ b → c ≡ d → Is x ts b d → Is x ts a c
  moved a b c d e f h =
      let P : Value → Type 0 = λ k. Is x ts k c in
      let Q : Part → Type 0 = λ k. Is x ts b k in
      subst P (sym e) (subst Q (sym f) h)

  module _ (build_is : (label : NodeKind) (from : ℕ) (r : Range) (p : Value) (q : Part) → Is x ts p q
      → TypedIs x ts label q (own x ts label q) (build x ts label from r p)) where
    abbrev parts : Plain NodeKind → List Cst
    parts p = parts_in (made slim p)

    KeptIs : Plain NodeKind → Type 0
    KeptIs p =
        Is x ts (value_of x ts (tree_of p)) (part_of x ts (tree_of p))
        × Is x ts (packed (map (value_of x ts) (parts p))) (w.packed (map (part_of x ts) (parts p)))

    listed : (all : List Cst) → Is x ts (packed (map (value_of x ts) all)) (w.packed (map (part_of x ts) all))
        → Is x ts (value_of x ts (vCst.Parts all)) (part_of x ts (vCst.Parts all))
    listed all h = moved _ _ _ _ (value_parts x ts all) (part_parts x ts all) h

    kept_is : (p : Plain NodeKind) → KeptIs p
    unfolding made KeptIs
    kept_is (node label from to ps) = (
      moved _ _ _ _ (value_node x ts label from to (parts ps)) (part_node x ts label from to (parts ps))
          (i.made from to _ label _ _
          (build_is label from (span_of ts from to) (packed (map (value_of x ts) (parts ps)))
          (w.packed (map (part_of x ts) (parts ps))) (kept_is ps).1)),
      i.nothing,
    )
    kept_is (leaf s n) = (moved _ _ _ _ (value_leaf x ts n) (part_leaf x ts n) (i.same n), i.nothing)
    kept_is nil = (listed [] i.nothing, i.nothing)
    kept_is (cons p ps) =
        let all = i.both _ _ _ _ (kept_is p).0 (kept_is ps).1 in (listed (tree_of p ∷ parts ps) all, all)
    kept_is (mark n ps) = kept_is ps
    kept_is (turn p ps) =
        let all = i.both _ _ _ _ (kept_is p).0 (kept_is ps).1 in (listed (tree_of p ∷ parts ps) all, all)
    kept_is (via label p) = (
      moved _ _ _ _ (value_role x ts label (tree_of p)) (part_role x ts label (tree_of p))
          (as_target_is _ _ (kept_is p).0),
      i.nothing,
    )

    -- the sites of a derived tree are those of its plain tree
    pub sites_are : (lang : Lang) (mode : Mode) (tree : Program) (derived : Derives lang mode x ts tree)
        → sites_of tree ≡ plain_sites x ts (tree_of derived.plain)
    unfolding KeptIs
    sites_are lang mode tree derived =
        let P : Option Program → Type 0 = λ it. Opt (Of sites_of (plain_sites x ts (tree_of derived.plain))) it in
        subst P derived.lowered
        (read x ts sites_of (λ (m : Typed). m.program) (λ label q s m h. h.program)
        (value_of x ts (tree_of derived.plain))
        (part_of x ts (tree_of derived.plain)) (kept_is derived.plain).0)
