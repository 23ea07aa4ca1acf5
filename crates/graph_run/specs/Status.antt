-- The exit status of each way to end.
use Rattle.std.specs.Prelude.{ℕ}
use Rattle.graph_run.specs.declared.status.Status.{Status}
use Rattle.graph_run.specs.declared.status.Status.TheVariants.{Done, BuildRefused, BadInput, ReadFault, WriteFault, NoMemory, Usage}

-- the number that the process ends with
abbrev pub code_of : Status → ℕ
code_of Done = 0
code_of BuildRefused = 1
code_of BadInput = 2
code_of ReadFault = 3
code_of WriteFault = 4
code_of NoMemory = 5
code_of Usage = 64
