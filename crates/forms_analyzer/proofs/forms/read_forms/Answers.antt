use Rattle.std.proofs.Common.{ap, subst, List, ℕ, Err}
use Rattle.url.specs.Parts.{serialize}
use Rattle.es_lexer.specs.Stops.{Stops}
use Rattle.source_reading.specs.Tree.{modes_of}
use Rattle.source_sites.proofs.FaultLemmas.{Refuses-weaker, lexical_refusal}
use Rattle.forms_analyzer.proofs.forms.read_forms.Goals as goal

-- the fault that was found
pub returns-in-Err-clause-refused : goal.returns-in-Err-clause-refused
returns-in-Err-clause-refused c =
    let media = c.args.media_type in
    Refuses-weaker _ _
    (λ d told.
    let fault = told.0 in
    let stops = subst (λ (t : List ℕ). Stops t fault.kind fault.at) c.as_str.ensures
    (c.in-Err.ensures.stopped fault (ap Err told.1)) in
    lexical_refusal (serialize c.args.specifier.now) c.args.lang (modes_of media) c.args.text.now d fault stops
    told.2)
    c.lexical_fault.result c.lexical_fault.ensures
