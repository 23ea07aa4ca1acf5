-- One entry after the other.
use Rattle.joravelsu_run.proofs.FaultLemmas.{nothing_added, pair_added}
use Rattle.joravelsu_run.proofs.faults.add_faults.Goals as goal

pub loop-specifier-init : goal.loop-specifier-init
loop-specifier-init c = nothing_added _

pub loop-specifier-preserved : goal.loop-specifier-preserved
loop-specifier-preserved c =
    pair_added _ _ _ c.loop-specifier.yielded _ _ c.fault_of.ensures c.loop-specifier.invariant
    c.in_ok-add_fault.ensures
