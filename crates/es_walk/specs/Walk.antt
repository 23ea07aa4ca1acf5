-- An analysis of trees, by the steps that it has for the nodes of each alternative, and what is met in a tree: what the
-- steps meet in the parts of each node, in their order.
use Rattle.std.specs.Prelude.{ℕ, zero, suc, List, [], ◌++◌, Option, Some, None}
use Rattle.std.specs.List.{flat_map}
use Rattle.es_grammar.specs.declared.rows.NodeKind.{NodeKind}
use Rattle.es_grammar.specs.declared.rows.NodeKind.TheVariants as l
use Rattle.es_grammar.specs.declared.cst.tree.Cst.{Cst}
use Rattle.es_grammar.specs.declared.cst.tree.Cst.TheOpen.{Cst-F}
use Rattle.es_grammar.specs.declared.cst.tree.Cst.TheFolds.{fold-Cst}
use Rattle.es_syntax.specs.declared.entry.Lean.{Lean}
use Rattle.es_syntax.specs.declared.entry.Lean.TheVariants as vLean
use Rattle.es_walk.specs.declared.step.Step.{Step}
use Rattle.es_walk.specs.declared.step.Step.TheVariants.{Act, Rest, At, All, Turns}
use Rattle.es_walk.specs.Part.{Part, more, token, node, as_group, follow, packed, as_target}

-- ---- what an analysis says: `H` is where a node stands, `W` a way from there to where a part stands, `A` what is done at
-- a node, `T` names the steps of a turn of a list, `M` is what is met
pub record Analysis (H W A T M : Type 0) : Type 0 where
  pub plan : NodeKind → List (Step W A T)
  pub turn : T → List (Step W A T)
  -- of nodes that lean left: where the operands stand, if elsewhere, and the steps of what stands after the first
  pub operands : Lean → Option H
  pub operand : Lean → List (Step W A T)
  -- where a part stands; nowhere, if it is passed over
  pub leads : H → Part (H → List M) → W → Option H
  pub acts : H → Part (H → List M) → A → List M

abbrev pub lean_of : NodeKind → Option Lean
lean_of l.Binary = Some vLean.Binary
lean_of l.TypedBinary = Some vLean.TypedBinary
lean_of _ = None

-- lists stand in turns of lists at most so deep
abbrev pub most_turns : ℕ
most_turns = 3

-- where it is led to, if elsewhere
abbrev pub stands : {H : Type 0} → Option H → H → H
stands (Some there) here = there
stands None here = here

module _ {H M : Type 0} where
  -- what is met in a part
  abbrev pub found : Part (H → List M) → H → List M
  found (node label p marks) here = marks here
  found _ here = []

  -- in all nodes of a part, in groups and lists too
  abbrev pub all_in : Part (H → List M) → H → List M
  all_in (more v vs) here = all_in v here ++ all_in vs here
  all_in (node label p marks) here = marks here
  all_in _ here = []

  -- in the turns of a list
  abbrev pub each : (Part (H → List M) → List M) → Part (H → List M) → List M
  each one (more v vs) = one (as_group v) ++ each one vs
  each one _ = []

  -- where it is led to
  abbrev pub led : Option H → (H → List M) → List M
  led (Some here) f = f here
  led None f = []

module _ {H W A T M : Type 0} (r : Analysis H W A T M) where
  abbrev pub by_step : ℕ → H → Part (H → List M) → Step W A T → List M
  by_step d here p (Act a) = r.acts here p a
  by_step d here p (Rest w) = led (r.leads here p w) (all_in p)
  by_step d here p (At w at) = led (r.leads here p w) (found (follow p at))
  by_step d here p (All w at) = led (r.leads here p w) (all_in (follow p at))
  by_step zero here p (Turns w at t) = []
  by_step (suc d) here p (Turns w at t) =
      led (r.leads here p w) (λ there. each (λ q. flat_map (by_step d there q) (r.turn t)) (as_group (follow p at)))

  abbrev pub by_steps : ℕ → List (Step W A T) → H → Part (H → List M) → List M
  by_steps d steps here p = flat_map (by_step d here p) steps

  -- a first operand, and what stands after it
  abbrev pub leaning : Lean → Part (H → List M) → H → List M
  leaning lean (more v vs) here = found v here ++ by_steps most_turns (r.operand lean) here vs
  leaning lean _ here = []

  abbrev pub own_by : Option Lean → NodeKind → Part (H → List M) → H → List M
  own_by (Some lean) label p here = leaning lean p (stands (r.operands lean) here)
  own_by None label p here = by_steps most_turns (r.plan label) here p

  -- what is met in a node of this alternative
  unfoldable pub own : NodeKind → Part (H → List M) → H → List M
  own label p here = own_by (lean_of label) label p here

  -- ---- the whole
  abbrev pub part_step : Cst-F (Part (H → List M)) → Part (H → List M)
  part_step (Cst-F.Leaf at) = token at
  part_step (Cst-F.Node label from to parts) = node label (packed parts) (own label (packed parts))
  part_step (Cst-F.Role label tree) = as_target tree
  part_step (Cst-F.Parts parts) = packed parts

  unfoldable pub part_of : Cst → Part (H → List M)
  part_of = fold-Cst (Part (H → List M)) part_step

  -- what is met in a tree
  abbrev pub walked : Cst → H → List M
  walked tree here = found (part_of tree) here
