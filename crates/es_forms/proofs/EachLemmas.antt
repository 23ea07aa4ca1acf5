-- What holds of all that the acts of an analysis meet holds of all that is met in a tree.
use Rattle.std.specs.Prelude.{ℕ, zero, suc, List, [], ◌∷◌, ◌++◌, Option, Some, None, map}
use Rattle.std.specs.List.{flat_map}
use Rattle.std.proofs.Common.{sym, subst}
use Rattle.es_grammar.specs.declared.rows.NodeKind.{NodeKind}
use Rattle.es_grammar.specs.declared.cst.tree.Cst.{Cst, roll-Cst, map-Cst}
use Rattle.es_grammar.specs.declared.cst.tree.Cst.TheVariants as vCst
use Rattle.es_grammar.specs.declared.cst.tree.Cst.TheOpen.{Cst-F}
use Rattle.es_grammar.specs.declared.cst.tree.Cst.TheFolds.{ind-Cst}
use Rattle.es_syntax.specs.declared.entry.Lean.{Lean}
use Rattle.es_walk.specs.declared.step.Path.{Path}
use Rattle.es_walk.specs.declared.step.Path.TheVariants as path
use Rattle.es_walk.specs.declared.step.Step.{Step}
use Rattle.es_walk.specs.declared.step.Step.TheVariants.{Act, Rest, At, All, Turns}
use Rattle.es_walk.specs.Part.{Part, absent, nil, more, token, node, part, as_group, follow, packed, as_target}
use Rattle.es_walk.specs.Walk.{Analysis, lean_of, most_turns, stands, found, all_in, each, led, by_step, by_steps, leaning, own_by, own, part_of, walked}
use Rattle.es_walk.proofs.Equations.{part_leaf, part_node, part_role, part_parts}

module _ {M : Type 0} (P : M → Type 0) where
  -- it holds of each
  abbrev pub Each : List M → Type 0
  Each [] = Unit {0}
  Each (m ∷ ms) = P m × Each ms

  pub each_append : (a b : List M) → Each a → Each b → Each (a ++ b)
  each_append [] b one other = other
  each_append (m ∷ a) b one other = (one.0, each_append a b one.1 other)

  each_flat : {B : Type 0} (f : B → List M) → ((b : B) → Each (f b)) → (bs : List B) → Each (flat_map f bs)
  each_flat f one [] = tt
  each_flat f one (b ∷ bs) = each_append (f b) (flat_map f bs) (one b) (each_flat f one bs)

module _ {H M : Type 0} (P : M → Type 0) where
  -- it holds of what is met in the nodes of a part
  abbrev Fine : Part (H → List M) → Type 0
  Fine (more v vs) = Fine v × Fine vs
  Fine (node label p marks) = (here : H) → Each P (marks here)
  Fine _ = Unit {0}

  fine_part : (p : Part (H → List M)) → Fine p → (n : ℕ) → Fine (part p n)
  fine_part absent f n = tt
  fine_part nil f n = tt
  fine_part (more v vs) f zero = f.0
  fine_part (more v vs) f (suc n) = fine_part vs f.1 n
  fine_part (token m) f n = tt
  fine_part (node label p marks) f n = tt

  fine_group : (p : Part (H → List M)) → Fine p → Fine (as_group p)
  fine_group absent f = tt
  fine_group nil f = tt
  fine_group (more v vs) f = f
  fine_group (token m) f = tt
  fine_group (node label p marks) f = tt

  fine_in : (p : Part (H → List M)) → Fine p → (n : ℕ) → Fine (as_group (part p n))
  fine_in p f n = fine_group (part p n) (fine_part p f n)

  fine_follow : (p : Part (H → List M)) → Fine p → (to : Path) → Fine (follow p to)
  fine_follow p f (path.At n) = fine_part p f n
  fine_follow p f (path.In n m) = fine_part _ (fine_in p f n) m
  fine_follow p f (path.Deep n m j) = fine_part _ (fine_in _ (fine_in p f n) m) j
  fine_follow p f (path.Deeper n m j i) = fine_part _ (fine_in _ (fine_in _ (fine_in p f n) m) j) i

  pub fine_found : (p : Part (H → List M)) → Fine p → (here : H) → Each P (found p here)
  fine_found absent f here = tt
  fine_found nil f here = tt
  fine_found (more v vs) f here = tt
  fine_found (token m) f here = tt
  fine_found (node label p marks) f here = f here

  fine_all : (p : Part (H → List M)) → Fine p → (here : H) → Each P (all_in p here)
  fine_all absent f here = tt
  fine_all nil f here = tt
  fine_all (more v vs) f here =
      each_append P (all_in v here) (all_in vs here) (fine_all v f.0 here) (fine_all vs f.1 here)
  fine_all (token m) f here = tt
  fine_all (node label p marks) f here = f here

  fine_each : (one : Part (H → List M) → List M) → ((q : Part (H → List M)) → Fine q → Each P (one q))
      → (p : Part (H → List M)) → Fine p → Each P (each one p)
  fine_each one holds absent f = tt
  fine_each one holds nil f = tt
  fine_each one holds (more v vs) f =
      each_append P (one (as_group v)) (each one vs) (holds (as_group v) (fine_group v f.0))
      (fine_each one holds vs f.1)
  fine_each one holds (token m) f = tt
  fine_each one holds (node label p marks) f = tt

  fine_led : (o : Option H) (f : H → List M) → ((here : H) → Each P (f here)) → Each P (led o f)
  fine_led (Some here) f holds = holds here
  fine_led None f holds = tt

  fine_target : (p : Part (H → List M)) → Fine p → Fine (as_target p)
  fine_target absent f = tt
  fine_target nil f = tt
  fine_target (more v vs) f = tt
  fine_target (token m) f = tt
  fine_target (node label p marks) f = f

module _ {H W A T M : Type 0} (P : M → Type 0) (r : Analysis H W A T M)
    (by_act : (here : H) (p : Part (H → List M)) (a : A) → Each P (r.acts here p a)) where
  fine_step : (d : ℕ) (here : H) (p : Part (H → List M)) → Fine P p → (s : Step W A T) → Each P (by_step r d here p s)
  fine_step zero here p f (Act a) = by_act here p a
  fine_step zero here p f (Rest w) = fine_led P (r.leads here p w) (all_in p) (λ there. fine_all P p f there)
  fine_step zero here p f (At w at) =
      fine_led P (r.leads here p w) (found (follow p at))
      (λ there. fine_found P (follow p at) (fine_follow P p f at) there)
  fine_step zero here p f (All w at) =
      fine_led P (r.leads here p w) (all_in (follow p at))
      (λ there. fine_all P (follow p at) (fine_follow P p f at) there)
  fine_step zero here p f (Turns w at t) = tt
  fine_step (suc d) here p f (Act a) = by_act here p a
  fine_step (suc d) here p f (Rest w) = fine_led P (r.leads here p w) (all_in p) (λ there. fine_all P p f there)
  fine_step (suc d) here p f (At w at) =
      fine_led P (r.leads here p w) (found (follow p at))
      (λ there. fine_found P (follow p at) (fine_follow P p f at) there)
  fine_step (suc d) here p f (All w at) =
      fine_led P (r.leads here p w) (all_in (follow p at))
      (λ there. fine_all P (follow p at) (fine_follow P p f at) there)
  fine_step (suc d) here p f (Turns w at t) =
      fine_led P (r.leads here p w)
      (λ there. each (λ q. flat_map (by_step r d there q) (r.turn t)) (as_group (follow p at))) (λ there.
      fine_each P (λ q. flat_map (by_step r d there q) (r.turn t))
      (λ q g. each_flat P (by_step r d there q) (λ s. fine_step d there q g s) (r.turn t))
      (as_group (follow p at)) (fine_group P (follow p at) (fine_follow P p f at)))

  fine_steps : (d : ℕ) (steps : List (Step W A T)) (here : H) (p : Part (H → List M)) → Fine P p
      → Each P (by_steps r d steps here p)
  fine_steps d steps here p f = each_flat P (by_step r d here p) (λ s. fine_step d here p f s) steps

  fine_leaning : (lean : Lean) (p : Part (H → List M)) → Fine P p → (here : H) → Each P (leaning r lean p here)
  fine_leaning lean absent f here = tt
  fine_leaning lean nil f here = tt
  fine_leaning lean (more v vs) f here =
      each_append P (found v here) (by_steps r most_turns (r.operand lean) here vs) (fine_found P v f.0 here)
      (fine_steps most_turns (r.operand lean) here vs f.1)
  fine_leaning lean (token m) f here = tt
  fine_leaning lean (node label p marks) f here = tt

  fine_own_by : (o : Option Lean) (label : NodeKind) (p : Part (H → List M)) → Fine P p → (here : H)
      → Each P (own_by r o label p here)
  fine_own_by (Some lean) label p f here = fine_leaning lean p f (stands (r.operands lean) here)
  fine_own_by None label p f here = fine_steps most_turns (r.plan label) here p f

  fine_own : (label : NodeKind) (p : Part (H → List M)) → Fine P p → (here : H) → Each P (own r label p here)
  unfolding own
  fine_own label p f here = fine_own_by (lean_of label) label p f here

  -- ---- of a tree
  abbrev IsFine : Cst → Type 0
  IsFine t = Fine P (part_of r t)

  fine_packed : (us : List ((t : Cst) × IsFine t)) → Fine P (packed (map (part_of r) (map (λ u. u.0) us)))
  fine_packed [] = tt
  fine_packed (u ∷ us) = (u.1, fine_packed us)

  layer : (y : Cst-F ((t : Cst) × IsFine t)) → IsFine (roll-Cst (map-Cst ((t : Cst) × IsFine t) Cst (λ e. e.0) y))
  layer (Cst-F.Leaf at) =
      subst IsFine (sym (vCst.rolls-Leaf at)) (subst (Fine P) (sym (part_leaf r at)) tt)
  layer (Cst-F.Node label from to us) =
      subst IsFine (sym (vCst.rolls-Node label from to (map (λ u. u.0) us)))
      (subst (Fine P) (sym (part_node r label from to (map (λ u. u.0) us)))
      (λ here. fine_own label (packed (map (part_of r) (map (λ u. u.0) us))) (fine_packed us) here))
  layer (Cst-F.Role label u) =
      subst IsFine (sym (vCst.rolls-Role label u.0))
      (subst (Fine P) (sym (part_role r label u.0)) (fine_target P (part_of r u.0) u.1))
  layer (Cst-F.Parts us) =
      subst IsFine (sym (vCst.rolls-Parts (map (λ u. u.0) us)))
      (subst (Fine P) (sym (part_parts r (map (λ u. u.0) us))) (fine_packed us))

  fine_tree : (t : Cst) → IsFine t
  fine_tree = ind-Cst IsFine (λ x y is. subst (λ z. IsFine (roll-Cst z)) is (layer y))

  pub each_walked : (tree : Cst) (here : H) → Each P (walked r tree here)
  each_walked tree here = fine_found P (part_of r tree) (fine_tree tree) here
