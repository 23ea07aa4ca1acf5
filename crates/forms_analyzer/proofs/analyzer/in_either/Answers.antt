use Rattle.std.proofs.Common.{refl, subst}
use Rattle.url.specs.Parts.{serialize}
use Rattle.grammar_theory.specs.declared.error.Lang.{Lang}
use Rattle.source_reading.specs.Tree.{modes_of}
use Rattle.source_reading.specs.Fault.{IsFaultIn, Refuses}
use Rattle.es_forms.specs.Chosen.{is_any}
use Rattle.forms_analyzer.specs.Forms.{HasBy, in_own}
use Rattle.forms_analyzer.proofs.analyzer.in_either.Goals as goal

-- what it has in its own language
pub returns-in-Ok : goal.returns-in-Ok
returns-in-Ok c =
    let media = c.args.media_type in
    in_own c.in-Ok.sites
    (subst (λ (l : Lang). HasBy (is_any c.args.chosen) c.args.chosen l media c.args.text.now c.in-Ok.sites)
    c.language_of-lang.ensures c.in-Ok.ensures.found)
    refl

-- its fault there
pub in_full-requires : goal.in_full-requires
in_full-requires c =
    let fault = c.in-Err-Diagnostic.fault in
    subst (λ (l : Lang). IsFaultIn (serialize c.args.specifier.now) l (modes_of c.args.media_type) c.args.text.now fault)
    c.language_of-lang.ensures
    (subst (Refuses (IsFaultIn (serialize c.args.specifier.now) c.language_of-lang.result (modes_of c.args.media_type)
    c.args.text.now)) c.in-Err-Diagnostic.field-0-is c.in-Err-Diagnostic.ensures.refused)
