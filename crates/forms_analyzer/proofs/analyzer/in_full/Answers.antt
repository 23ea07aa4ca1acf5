use Rattle.std.proofs.Common.{refl, ap, subst, List, ℕ, Err}
use Rattle.url.specs.Parts.{serialize}
use Rattle.parse_diagnostic.specs.Diagnosis.{told_range}
use Rattle.grammar_theory.specs.declared.error.Lang.{Lang}
use Rattle.source_reading.specs.Tree.{modes_of}
use Rattle.source_reading.specs.Fault.{IsFaultIn, Refuses}
use Rattle.graph_entry.specs.Specifier.{text_of}
use Rattle.graph_entry.specs.Reading.{diagnosis_at}
use Rattle.es_forms.specs.Chosen.{is_any}
use Rattle.forms_analyzer.specs.Forms.{HasBy, in_full, in_none}
use Rattle.forms_analyzer.proofs.analyzer.in_full.Goals as goal

-- what it has in the other language
pub returns-in-Ok : goal.returns-in-Ok
returns-in-Ok c =
    let media = c.args.media_type in
    let fault = c.args.fault in
    in_full fault.kind (told_range fault.kind fault.range) c.requires.1 c.in-Ok.sites
    (subst (λ (l : Lang). HasBy (is_any c.args.chosen) c.args.chosen l media c.args.text.now c.in-Ok.sites)
    c.full_language-lang.ensures c.in-Ok.ensures.found)
    refl

-- its fault is that of its own
pub returns-in-Err-Diagnostic : goal.returns-in-Err-Diagnostic
unfolding text_of
returns-in-Err-Diagnostic c =
    let fault = c.args.fault in
    let other = c.in-Err-Diagnostic._other in
    let Is : Lang → Type 0 = λ l.
    IsFaultIn (serialize c.args.specifier.now) l (modes_of c.args.media_type) c.args.text.now other in
    let is : Is c.full_language-lang.result
    = subst (Refuses (IsFaultIn (serialize c.args.specifier.now) c.full_language-lang.result (modes_of c.args.media_type)
    c.args.text.now)) c.in-Err-Diagnostic.field-0-is c.in-Err-Diagnostic.ensures.refused in
    let there = subst Is c.full_language-lang.ensures is in
    in_none fault.kind (told_range fault.kind fault.range) c.requires.1 other.kind (told_range other.kind other.range)
    there.1 (ap (λ (s : List ℕ). Err (diagnosis_at s fault.kind (told_range fault.kind fault.range))) c.requires.0)
