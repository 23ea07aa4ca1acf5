-- What is left to do during a walk, what it adds, and a bound on the steps that it takes.
use Rattle.std.specs.Prelude.{ℕ, zero, suc, ◌+◌, ◌-◌, ◌*◌, List, [], ◌∷◌, ◌++◌, length, drop}
use Rattle.es_walk.specs.declared.step.Step.{Step}
use Rattle.es_walk.specs.declared.levels.Owner.{Owner}
use Rattle.es_walk.specs.declared.levels.Owner.TheVariants as owner
use Rattle.es_walk.specs.declared.levels.Todo.{Todo}
use Rattle.es_walk.specs.declared.levels.Todo.TheVariants as todo
use Rattle.es_walk.specs.declared.levels.Frame.{Frame}
use Rattle.es_walk.specs.Part.{Part, part}
use Rattle.es_walk.specs.Walk.{Analysis, found, all_in, each, by_steps}
use Rattle.es_walk.specs.Rows.{parts_of}

module _ {H W A T M : Type 0} (r : Analysis H W A T M) where
  abbrev pub steps_of : Owner T → List (Step W A T)
  steps_of (owner.Node label) = r.plan label
  steps_of (owner.Turn t) = r.turn t
  steps_of (owner.Operand lean) = r.operand lean

  abbrev pub todo_marks : Todo T → H → Part (H → List M) → List M
  todo_marks (todo.Steps d from at) here p = by_steps r d (drop at (steps_of from)) here p
  todo_marks todo.Rest here p = all_in p here
  todo_marks todo.First here p = found (part p 0) here
  todo_marks (todo.Turns d from) here p = each (by_steps r d (steps_of from) here) p

  abbrev pub frame_marks : Frame H T → List M
  frame_marks f = todo_marks f.todo f.here (parts_of r f.parts.entries.now)

  -- at all levels, the innermost last
  unfoldable pub ahead : List (Frame H T) → List M
  ahead [] = []
  ahead (f ∷ fs) = ahead fs ++ frame_marks f

-- ---- how many steps
unfoldable pub cost : ℕ → ℕ
cost zero = 1
cost (suc n) = 400 * cost n

abbrev pub todo_weight : {T : Type 0} → Todo T → ℕ → ℕ
todo_weight (todo.Steps d from at) n = (32 - at) * (4 * cost n) + 1
todo_weight todo.Rest n = 2 * cost n
todo_weight todo.First n = 2 * cost n
todo_weight (todo.Turns d from) n = cost n

module _ {H T : Type 0} where
  abbrev pub frame_weight : Frame H T → ℕ
  frame_weight f = todo_weight f.todo (length f.parts.entries.now)

  unfoldable pub weight : List (Frame H T) → ℕ
  weight [] = 0
  weight (f ∷ fs) = frame_weight f + weight fs
