use Rattle.std.proofs.Common.{refl, ap, subst, List, ℕ, Err}
use Rattle.url.specs.Parts.{serialize}
use Rattle.parse_diagnostic.specs.Diagnosis.{told_range}
use Rattle.source_reading.specs.Fault.{IsFaultAt, Refuses}
use Rattle.graph_entry.specs.Specifier.{text_of}
use Rattle.graph_entry.specs.Reading.{diagnosis_at, with_sites, no_program}
use Rattle.forms_analyzer.proofs.analyzer.own_sites.Goals as goal

-- the sites of the source
pub returns-in-Ok : goal.returns-in-Ok
returns-in-Ok c = with_sites c.in-Ok.sites c.in-Ok.ensures.found refl

-- its fault
pub returns-in-Err-Diagnostic : goal.returns-in-Err-Diagnostic
unfolding text_of
returns-in-Err-Diagnostic c =
    let fault = c.in-Err-Diagnostic.fault in
    let is : IsFaultAt (serialize c.args.specifier.now) c.args.media_type c.args.text.now fault
    = subst (Refuses (IsFaultAt (serialize c.args.specifier.now) c.args.media_type c.args.text.now))
    c.in-Err-Diagnostic.field-0-is c.in-Err-Diagnostic.ensures.refused in
    no_program fault.kind (told_range fault.kind fault.range) is.1
    (ap (λ (s : List ℕ). Err (diagnosis_at s fault.kind (told_range fault.kind fault.range))) is.0)
