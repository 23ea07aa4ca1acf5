use Rattle.std.proofs.Common.{map}
use Rattle.graph_builder.specs.Entries.{entry_pair}
use Rattle.joravelsu_run.specs.Declarations.{IsDeclarationsText}
use Rattle.joravelsu_run.specs.Steps.{AddsOne}
use Rattle.joravelsu_run.proofs.declarations.add_declarations.Given as goal

-- the text of the entries so far was added
abbrev pub invariant-loop-specifier : goal.invariant-loop-specifier
invariant-loop-specifier l = AddsOne (IsDeclarationsText (map entry_pair l.yielded)) l.initial.out l.out
