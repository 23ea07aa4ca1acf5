-- What is left of a walk, and what it adds to what is found.
use Rattle.std.specs.Prelude.{◌≡◌, ℕ, ◌+◌, ◌*◌, List, [], ◌∷◌, length, Some, IfSome}
use Rattle.base.specs.declared.range.Range.{Range}
use Rattle.es_token.specs.declared.token.Token.{Token}
use Rattle.es_syntax.specs.declared.entry.Lean.{Lean}
use Rattle.es_syntax.specs.declared.entry.Lean.TheVariants as vLean
use Rattle.dts_rules.specs.Ranges.{has_range}
use Rattle.dts_overloads.specs.declared.shapes.Group.{Group}
use Rattle.dts_overloads.specs.declared.shapes.Group.TheVariants as gr
use Rattle.dts_overloads.specs.declared.walk.Frame.{Frame}
use Rattle.dts_overloads.specs.Among.{none, ◌∪◌}
use Rattle.dts_overloads.specs.Plan.{inner}
use Rattle.dts_overloads.specs.Met.{Told, both, Met, more, rows, met, way_of}
use Rattle.dts_overloads.specs.Own.{row_met}

-- a chain of operators: a first operand, and turns; fewer are no node
abbrev pub operands_of : Lean → Group
operands_of vLean.Binary = gr.Operands
operands_of vLean.TypedBinary = gr.TypedOperands

abbrev pub lean_told : Lean → Met → Told
lean_told lean (more v (more w ws)) = met (more v (more w ws)) (rows (inner (operands_of lean)))
lean_told lean _ = Some none

-- where ranges are told, they are added
abbrev pub Gives : Told → List Range → List Range → Type 0
Gives told old new = IfSome told (λ among. has_range new ≡ has_range old ∪ among)

-- what is left adds to what is found by now what all adds to what was found before
pub record Takes (all left : Told) (old now : List Range) : Type 0 where
  pub takes : (new : List Range) → Gives left now new → Gives all old new

module _ (x : List ℕ) (ts : List Token) where
  abbrev pub frame_told : Frame → Told
  frame_told f = met (row_met x ts f.row.entries.now) (way_of f.mode)

  -- at all levels, the innermost last
  unfoldable pub ahead : List Frame → Told
  ahead [] = Some none
  ahead (f ∷ fs) = both (ahead fs) (frame_told f)

-- a bound on the steps that are left
unfoldable pub weight : List Frame → ℕ
weight [] = 0
weight (f ∷ fs) = (2 * length f.row.entries.now + 1) + weight fs
