use Rattle.std.proofs.Common.{refl, ap, subst, List, ℕ, Err}
use Rattle.url.specs.Parts.{serialize}
use Rattle.parse_diagnostic.specs.Diagnosis.{told_range}
use Rattle.source_reading.specs.Tree.{modes_of}
use Rattle.source_reading.specs.Fault.{IsFaultIn, Refuses}
use Rattle.graph_entry.specs.Specifier.{text_of}
use Rattle.graph_entry.specs.Reading.{diagnosis_at}
use Rattle.grammar_theory.specs.declared.error.Lang.{Lang}
use Rattle.forms_analyzer.specs.Forms.{HasForms, with_forms, no_program}
use Rattle.forms_analyzer.proofs.analyzer.with_more.Goals as goal

-- the sites of the source, and those of the forms
pub returns-in-Ok : goal.returns-in-Ok
returns-in-Ok c =
    let media = c.args.media_type in
    with_forms c.in-Ok.sites
    (subst (λ (l : Lang). HasForms c.args.chosen l media c.args.text.now c.in-Ok.sites) c.language_of-lang.ensures c.in-Ok.ensures.found)
    refl

-- its fault
pub returns-in-Err-Diagnostic : goal.returns-in-Err-Diagnostic
unfolding text_of
returns-in-Err-Diagnostic c =
    let fault = c.in-Err-Diagnostic.fault in
    let Is : Lang → Type 0 = λ l.
    IsFaultIn (serialize c.args.specifier.now) l (modes_of c.args.media_type) c.args.text.now fault in
    let is : Is c.language_of-lang.result
    = subst (Refuses (IsFaultIn (serialize c.args.specifier.now) c.language_of-lang.result (modes_of c.args.media_type)
    c.args.text.now)) c.in-Err-Diagnostic.field-0-is c.in-Err-Diagnostic.ensures.refused in
    let here = subst Is c.language_of-lang.ensures is in
    no_program fault.kind (told_range fault.kind fault.range) here.1
    (ap (λ (s : List ℕ). Err (diagnosis_at s fault.kind (told_range fault.kind fault.range))) here.0)
