-- What is met in a tree is what its typed value tells.
use Rattle.std.specs.Prelude.{ℕ, List, [], ◌∷◌, None, map}
use Rattle.std.proofs.Common.{◌≡◌, refl, sym, ap, subst, ◌∙◌}
use Rattle.es_token.specs.declared.token.Token.{Token}
use Rattle.es_ast.specs.declared.ast.Pat.TheVariants as vPat
use Rattle.es_grammar.specs.declared.rows.NodeKind.{NodeKind}
use Rattle.es_grammar.specs.declared.cst.tree.Cst.{Cst, roll-Cst, map-Cst}
use Rattle.es_grammar.specs.declared.cst.tree.Cst.TheVariants as vCst
use Rattle.es_grammar.specs.declared.cst.tree.Cst.TheOpen.{Cst-F}
use Rattle.es_grammar.specs.declared.cst.tree.Cst.TheFolds.{ind-Cst, para-roll-Cst}
use Rattle.es_lowering.specs.Value.{Value, Typed}
use Rattle.es_lowering.specs.Value as v
use Rattle.es_lowering.specs.Texts.{span_of}
use Rattle.es_lowering.specs.Lowering.{value_of, target_of}
use Rattle.es_lowering.specs.Lowering as low
use Rattle.es_lowering.proofs.Equations.{value_leaf, value_node, value_role, value_parts}
use Rattle.dts_overloads.proofs.Equations as laws
use Rattle.dts_overloads.specs.Met.{Told, Met, absent, nil, more, token, node, packed, as_target}
use Rattle.dts_overloads.specs.Own.{own, values, all_met, met_step, met_of}
use Rattle.dts_overloads.proofs.Seen.{mapped}
use Rattle.dts_overloads.proofs.Agrees.{Said, Agree, parts}
use Rattle.dts_overloads.proofs.Nodes.{node_said}

module _ (x : List ℕ) (ts : List Token) where
  -- ---- what is met in each form of a tree
  all_met_is : (us : List Cst) → all_met x ts (map (λ u. (u, met_of x ts u)) us) ≡ packed (map (met_of x ts) us)
  all_met_is [] = refl
  all_met_is (u ∷ us) = ap (more (met_of x ts u)) (all_met_is us)

  values_are : (us : List Cst)
      → values x ts (map (λ u. (u, met_of x ts u)) us) ≡ low.packed (map (value_of x ts) us)
  values_are [] = refl
  values_are (u ∷ us) = ap (v.more (value_of x ts u)) (values_are us)

  pub met_leaf : (at : ℕ) → met_of x ts (vCst.Leaf at) ≡ token
  unfolding met_of
  met_leaf at =
      ap (met_of x ts) (sym (vCst.rolls-Leaf at)) ∙ para-roll-Cst Met (met_step x ts) (Cst-F.Leaf at)

  pub met_node : (label : NodeKind) (from to : ℕ) (us : List Cst)
      → met_of x ts (vCst.Node label from to us)
      ≡ node (own label (low.packed (map (value_of x ts) us)) (packed (map (met_of x ts) us)))
  unfolding met_of
  met_node label from to us =
      ap (met_of x ts) (sym (vCst.rolls-Node label from to us))
      ∙ para-roll-Cst Met (met_step x ts) (Cst-F.Node label from to us)
      ∙ ap (λ (p : Value). node (own label p (all_met x ts (map (λ u. (u, met_of x ts u)) us))))
      (values_are us)
      ∙ ap (λ (q : Met). node (own label (low.packed (map (value_of x ts) us)) q))
      (all_met_is us)

  pub met_role : (label : NodeKind) (tree : Cst) → met_of x ts (vCst.Role label tree) ≡ as_target (met_of x ts tree)
  unfolding met_of
  met_role label tree =
      ap (met_of x ts) (sym (vCst.rolls-Role label tree)) ∙ para-roll-Cst Met (met_step x ts) (Cst-F.Role label tree)

  pub met_parts : (us : List Cst) → met_of x ts (vCst.Parts us) ≡ packed (map (met_of x ts) us)
  unfolding met_of
  met_parts us =
      ap (met_of x ts) (sym (vCst.rolls-Parts us)) ∙ para-roll-Cst Met (met_step x ts) (Cst-F.Parts us) ∙ all_met_is us

  -- ---- in another role
  target_said : (m : Typed) (told : Told) → Said m told → Said (target_of x ts m.expr) told
  target_said m told s = record {
    expr = record { sees = tt };
    pat = mapped vPat.Expr (λ e. laws.pat_Expr e) m.expr s.expr;
    stmt = record { sees = tt };
    decl = record { sees = tt };
    item = record { sees = tt };
    program = record { sees = tt };
    block = record { sees = tt };
    variables = record { sees = tt };
    declarator = record { sees = tt };
    head = mapped (λ target. (None, vPat.Expr target)) (λ e. laws.pat_Expr e) m.expr s.expr;
    param = record { sees = tt };
    params = record { sees = tt };
    pat_prop = record { sees = tt };
    prop = record { sees = tt };
    member = record { sees = tt };
    key = record { sees = tt };
    post = record { sees = tt };
    args = record { sees = tt };
    marked = λ mark ty r. record { sees = tt };
    signature = record { sees = tt };
    declarable = λ declare r. record { sees = tt };
  }

  target_agrees : (u : Value) (w : Met) → Agree u w → Agree (low.as_target x ts u) (as_target w)
  target_agrees (v.node from to m) (node told) a = target_said m told a
  target_agrees v.absent absent a = tt
  target_agrees v.nil nil a = tt
  target_agrees (v.more b bs) (more c cs) a = tt
  target_agrees (v.token n) token a = tt
  target_agrees _ _ a = absurd a

  -- ---- all trees
  abbrev Agrees : Cst → Type 0
  Agrees t = Agree (value_of x ts t) (met_of x ts t)

  abbrev Told-trees : Type 0
  Told-trees = List ((t : Cst) × Agrees t)

  packed_agrees : (us : Told-trees)
      → Agree (low.packed (map (value_of x ts) (map (λ u. u.0) us))) (packed (map (met_of x ts) (map (λ u. u.0) us)))
  packed_agrees [] = tt
  packed_agrees (u ∷ us) = (u.1, packed_agrees us)

  by_equations : {u w : Value} {b c : Met} → w ≡ u → c ≡ b → Agree u b → Agree w c
  by_equations {u = u} {w = w} {b = b} {c = c} e f a =
      subst (λ (z : Value). Agree z c) (sym e) (subst (λ (z : Met). Agree u z) (sym f) a)

  layer : (y : Cst-F ((t : Cst) × Agrees t)) → Agrees (roll-Cst (map-Cst ((t : Cst) × Agrees t) Cst (λ e. e.0) y))
  layer (Cst-F.Leaf at) =
      subst Agrees (sym (vCst.rolls-Leaf at))
      (by_equations {u = v.token at} {b = token} (value_leaf x ts at) (met_leaf at) tt)
  layer (Cst-F.Node label from to us) =
      let p = low.packed (map (value_of x ts) (map (λ u. u.0) us)) in
      let q = packed (map (met_of x ts) (map (λ u. u.0) us)) in
      subst Agrees (sym (vCst.rolls-Node label from to (map (λ u. u.0) us)))
      (by_equations (value_node x ts label from to (map (λ u. u.0) us)) (met_node label from to (map (λ u. u.0) us))
      (node_said x ts from (span_of ts from to) p q (parts p q (packed_agrees us)) label))
  layer (Cst-F.Role label u) =
      subst Agrees (sym (vCst.rolls-Role label u.0))
      (by_equations (value_role x ts label u.0) (met_role label u.0)
      (target_agrees (value_of x ts u.0) (met_of x ts u.0) u.1))
  layer (Cst-F.Parts us) =
      subst Agrees (sym (vCst.rolls-Parts (map (λ u. u.0) us)))
      (by_equations (value_parts x ts (map (λ u. u.0) us)) (met_parts (map (λ u. u.0) us)) (packed_agrees us))

  pub tree_agrees : (t : Cst) → Agree (value_of x ts t) (met_of x ts t)
  tree_agrees = ind-Cst Agrees (λ y z is. subst (λ w. Agrees (roll-Cst w)) is (layer z))
