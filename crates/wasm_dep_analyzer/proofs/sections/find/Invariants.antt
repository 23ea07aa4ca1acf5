-- the sections so far stand in front of the rest, none of their shorter fronts has all that is wanted, and they hold
-- what was found
use Rattle.std.proofs.Common.{List, length}
use Rattle.wasm_dep_analyzer.specs.Sections.{Section}
use Rattle.wasm_dep_analyzer.specs.Module.{AreLookedAt}
use Rattle.wasm_dep_analyzer.specs.Steps.{IsFoundIn}
use Rattle.wasm_dep_analyzer.proofs.sections.find.Given as goal

abbrev pub invariant-pieces : goal.invariant-pieces
invariant-pieces l = (ss : List Section) × AreLookedAt l.skip_types l.total l.body ss l.rest × IsFoundIn l.found ss

abbrev pub decreases-pieces : goal.decreases-pieces
decreases-pieces l = length l.rest
