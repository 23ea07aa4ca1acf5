-- What is left of a walk, and what it adds to what is found.
use Rattle.std.specs.Prelude.{◌≡◌, ℕ, ◌+◌, ◌*◌, List, [], ◌∷◌, length, Option, Some, IfSome}
use Rattle.es_token.specs.declared.token.Token.{Token}
use Rattle.cjs_facts.specs.declared.found.Found.{Found}
use Rattle.es_ast.specs.declared.ast.Program.{Program}
use Rattle.es_syntax.specs.declared.entry.Lean.{Lean}
use Rattle.es_syntax.specs.declared.entry.Lean.TheVariants as vLean
use Rattle.cjs_facts.specs.Facts.{facts_of}
use Rattle.cjs_facts.specs.Exports.{after, found_in}
use Rattle.cjs_table.specs.declared.shapes.Group.{Group}
use Rattle.cjs_table.specs.declared.shapes.Group.TheVariants as gr
use Rattle.cjs_table.specs.declared.walk.Frame.{Frame}
use Rattle.cjs_table.specs.Plan.{inner}
use Rattle.cjs_table.specs.Met.{Told, both, Met, more, rows, met, way_of}
use Rattle.cjs_table.specs.Facts.{row_met}

-- where the program is there, this is found in it
pub record Finds (part : Option Program) (found : Found) : Type 0 where
  pub finds : IfSome part (λ p. found ≡ found_in (facts_of p))

-- a chain of operators: a first operand, and turns; fewer are no node
abbrev pub operands_of : Lean → Group
operands_of vLean.Binary = gr.Operands
operands_of vLean.TypedBinary = gr.TypedOperands

abbrev pub lean_told : Lean → Met → Told
lean_told lean (more v (more w ws)) = met (more v (more w ws)) (rows (inner (operands_of lean)))
lean_told lean _ = Some []

-- where facts are told, they are added
abbrev pub Gives : Told → Found → Found → Type 0
Gives told old new = IfSome told (λ facts. new ≡ after old facts)

-- what is left adds to what is found by now what all adds to what was found before
pub record Takes (all left : Told) (old now : Found) : Type 0 where
  pub takes : (new : Found) → Gives left now new → Gives all old new

module _ (x : List ℕ) (ts : List Token) where
  abbrev pub frame_told : Frame → Told
  frame_told f = met (row_met x ts f.row.entries.now) (way_of f.mode)

  -- at all levels, the innermost last
  unfoldable pub ahead : List Frame → Told
  ahead [] = Some []
  ahead (f ∷ fs) = both (ahead fs) (frame_told f)

-- a bound on the steps that are left
unfoldable pub weight : List Frame → ℕ
weight [] = 0
weight (f ∷ fs) = (2 * length f.row.entries.now + 1) + weight fs
