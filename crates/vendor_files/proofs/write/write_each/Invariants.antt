use Rattle.std.proofs.Common.{◌≤◌, take}
use Rattle.sys_traits.specs.State.{WhereTold}
use Rattle.vendor_files.specs.Written.{WritesAll}
use Rattle.vendor_files.proofs.write.write_each.Given as goal

-- the files so far are written
abbrev pub invariant-loop-number : goal.invariant-loop-number
invariant-loop-number g l = record {
  tells : WhereTold (WritesAll l.mode (take l.number l.files)) (g.S.SysState.told l.fn.sys) (g.S.SysState.told l.sys);
  counts : g.S.SysState.faults l.fn.sys ≤ g.S.SysState.faults l.sys;
}
