use Rattle.std.proofs.Common.{take}
use Rattle.std.specs.List.{flat_map}
use Rattle.graph_report.specs.Adds.{Adds}
use Rattle.vendor_report.specs.Plans.{later_external}
use Rattle.vendor_report.proofs.modules.add_externals.Given as goal

-- those so far were added
abbrev pub invariant-loop-url : goal.invariant-loop-url
invariant-loop-url l = Adds l.initial.out l.out (flat_map later_external (take l.url-index l.urls))
