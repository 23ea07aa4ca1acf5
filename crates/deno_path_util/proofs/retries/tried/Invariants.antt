use Rattle.std.proofs.Common.{◌+◌, ◌-◌, ◌≤◌}
use Rattle.sys_traits.specs.State.{WhereTold}
use Rattle.deno_path_util.proofs.TriesLemmas.{Before}
use Rattle.deno_path_util.proofs.retries.tried.Given as goal

abbrev pub invariant-loop-number : goal.invariant-loop-number
invariant-loop-number g l = record {
  begun : 1 ≤ l.number;
  tells : WhereTold (Before l.path l.bytes l.mode (6 - l.number)) (g.S.SysState.told l.fn.sys)
      (g.S.SysState.told l.sys);
  counts : (g.S.SysState.faults l.fn.sys + l.number) ≤ (g.S.SysState.faults l.sys + 1);
}
