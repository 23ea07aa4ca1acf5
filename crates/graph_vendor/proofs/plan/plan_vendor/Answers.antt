use Rattle.std.proofs.Common.{subst}
use Rattle.graph_vendor.specs.declared.plan.Planned.{Planned}
use Rattle.graph_vendor.specs.Names.{names_in}
use Rattle.graph_vendor.specs.Files.{IsTold}
use Rattle.graph_vendor.proofs.plan.plan_vendor.Goals as goal

-- the first cause
pub returns-in-Ok-Unplanned : goal.returns-in-Ok-Unplanned
returns-in-Ok-Unplanned g c =
    subst (λ (p : Planned). IsTold (g.M.ModuleAnalyzer.reads c.args.analyzer.now) c.args.graph.now
    (names_in c.args.base.now c.args.graph.now.entries) p)
    c.in-Ok-Unplanned.field-0-is c.in-Ok-Unplanned.ensures
