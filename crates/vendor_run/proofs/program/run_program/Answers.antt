-- Words that name a folder, and the others.
use Rattle.graph_run.specs.declared.status.Status.TheVariants.{BadInput, BuildRefused}
use Rattle.graph_run.specs.Run.{IsRefused, IsLargeInput, IsSmallInput}
use Rattle.vendor_run.proofs.ProgramLemmas.{wrote_vendor, wrote_graph, reads_graph, always_so, comes_always, comes_named, none_named}
use Rattle.vendor_run.proofs.program.run_program.Goals as goal

pub returns-in-Some-clause-written : goal.returns-in-Some-clause-written
returns-in-Some-clause-written g c =
    wrote_vendor _ _ _ _ c.in-Some.base c.run_vendor.result (rw c.in-Some.is at c.in-Ok.ensures.folder)
    c.run_vendor.ensures.written

pub returns-in-Some-clause-none : goal.returns-in-Some-clause-none
returns-in-Some-clause-none g c =
    λ none same. absurd (none.1 c.in-Some.base (rw c.in-Some.is at c.in-Ok.ensures.folder))

pub returns-in-None-clause-written : goal.returns-in-None-clause-written
returns-in-None-clause-written g c =
    wrote_graph _ _ _ _ (rw c.in-None.is at c.in-Ok.ensures.folder) c.run.result c.run.ensures.written

pub returns-in-None-clause-refused : goal.returns-in-None-clause-refused
returns-in-None-clause-refused g c =
    always_so IsRefused _ _ _ _ _ c.run.result _ _ BadInput
    (reads_graph _ (rw c.in-None.is at c.in-Ok.ensures.folder)) c.run.ensures.refused

pub returns-in-None-clause-large : goal.returns-in-None-clause-large
returns-in-None-clause-large g c =
    always_so IsLargeInput _ _ _ _ _ c.run.result _ _ BuildRefused
    (reads_graph _ (rw c.in-None.is at c.in-Ok.ensures.folder)) c.run.ensures.large

pub returns-in-Some-clause-refused : goal.returns-in-Some-clause-refused
returns-in-Some-clause-refused g c =
    comes_always IsRefused _ _ _ _ _ c.run_vendor.result _ BadInput c.run_vendor.ensures.refused

pub returns-in-Some-clause-large : goal.returns-in-Some-clause-large
returns-in-Some-clause-large g c =
    comes_always IsLargeInput _ _ _ _ _ c.run_vendor.result _ BuildRefused c.run_vendor.ensures.large

pub returns-in-Some-clause-vendored : goal.returns-in-Some-clause-vendored
returns-in-Some-clause-vendored g c = comes_named IsSmallInput _ _ _ c.run_vendor.ensures.complete

pub returns-in-None-clause-vendored : goal.returns-in-None-clause-vendored
returns-in-None-clause-vendored g c =
    none_named IsSmallInput _ _ _ (rw c.in-None.is at c.in-Ok.ensures.folder)
