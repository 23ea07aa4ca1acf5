-- what is sought stands in the rest
use Rattle.std.proofs.Common.{◌≡◌, length}
use Rattle.wasm_dep_analyzer.specs.Module.{behind_end}
use Rattle.wasm_dep_analyzer.proofs.own_sections.skip_initialiser.Given as goal

abbrev pub invariant-bytes : goal.invariant-bytes
invariant-bytes l = behind_end l.rest ≡ behind_end l.input

abbrev pub decreases-bytes : goal.decreases-bytes
decreases-bytes l = length l.rest
