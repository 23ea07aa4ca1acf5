-- The line of a fault, or nothing.
use Rattle.std.specs.Option.{option_copied}
use Rattle.std.proofs.Common.{ap}
use Rattle.import_map.proofs.json_reading_lemmas.ReadingLemmas.{IfOk-map}
use Rattle.joravelsu_run.proofs.FaultLemmas.{fault_added, none_added}
use Rattle.joravelsu_run.proofs.faults.add_fault.Goals as goal

pub returns-in-Some : goal.returns-in-Some
returns-in-Some c =
    IfOk-map c.add_line.result _ _
    (λ _ adds. fault_added _ _ c.args.specifier.now _ _ c.diagnostic.result.now (ap option_copied c.in-Some.is)
    c.diagnostic.ensures adds)
    c.add_line.ensures

pub returns-in-None : goal.returns-in-None
returns-in-None c = none_added _ _ _ (ap option_copied c.in-None.is)
