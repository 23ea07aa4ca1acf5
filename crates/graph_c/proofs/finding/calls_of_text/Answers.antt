use Rattle.std.proofs.Common.{◌∙◌, ap, refl, List}
use Rattle.std.proofs.lemmas.Result.{IfOk-weaker}
use Rattle.es_token.specs.declared.token.Token.{Token}
use Rattle.unread_calls.specs.Unread.{unread_of}
use Rattle.graph_c.specs.declared.finding.Finding.TheVariants.{Calls}
use Rattle.graph_c.specs.Finding.{with_tokens}
use Rattle.graph_c.proofs.FindingLemmas.{first_fault}
use Rattle.graph_c.proofs.finding.calls_of_text.Goals as goal

-- the calls among the tokens that were read
pub returns-in-Ok : goal.returns-in-Ok
returns-in-Ok c =
    let lexed = c.in-Ok.lexed in
    IfOk-weaker c.calls_of_tokens.result _ _
    (λ finding is. with_tokens lexed.tokens lexed.comments c.in-Ok.ensures.read
    (is ∙ ap (λ (ts : List Token). Calls (unread_of ts)) c.as_slice.ensures))
    c.calls_of_tokens.ensures

-- the fault that was found
pub returns-in-Err : goal.returns-in-Err
returns-in-Err c =
    IfOk-weaker c.lexical.result _ _
    (λ finding is. first_fault _ c.args.text.now _ c.in-Err.error finding refl c.in-Err.ensures.stopped is)
    c.lexical.ensures
