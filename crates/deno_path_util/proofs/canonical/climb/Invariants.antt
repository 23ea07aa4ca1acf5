-- the names so far are missing, and no call changed a file
use Rattle.std.proofs.Common.{◌≤◌}
use denote.Text.{Utf8}
use denote.Shadow.{shadow}
use Rattle.lexical_path.specs.Paths.{texts}
use Rattle.sys_traits.specs.State.{WhereTold}
use Rattle.deno_path_util.specs.Steps.{Quiet}
use Rattle.deno_path_util.proofs.ClimbLemmas.{Leads, rank}
use Rattle.deno_path_util.proofs.canonical.climb.Given as goal

abbrev pub invariant-missing : goal.invariant-missing
invariant-missing g l =
    shadow (Utf8 l.here)
    × WhereTold (Quiet (Leads l.path l.here (texts l.names.items))) (g.S.SysState.told l.fn.sys)
    (g.S.SysState.told l.sys)
    × (g.S.SysState.faults l.fn.sys ≤ g.S.SysState.faults l.sys)

abbrev pub decreases-missing : goal.decreases-missing
decreases-missing g l = rank l.here
