use Rattle.std.proofs.Common.{take}
use Rattle.std.specs.List.{flat_map}
use Rattle.graph_report.specs.Adds.{Adds}
use Rattle.vendor_report.specs.Plans.{later_root}
use Rattle.vendor_report.proofs.modules.add_later_roots.Given as goal

-- those so far were added
abbrev pub invariant-loop-root : goal.invariant-loop-root
invariant-loop-root l = Adds l.initial.out l.out (flat_map later_root (take l.root-index l.roots))
