use Rattle.std.proofs.Common.{refl}
use Rattle.std.proofs.lemmas.Result.{IfOk-weaker}
use Rattle.graph_c.specs.Finding.{with_tokens}
use Rattle.graph_c.proofs.FindingLemmas.{first_fault}
use Rattle.graph_c.proofs.declaring.of_text.Goals as goal

-- what the tokens have that were read
pub returns-in-Ok : goal.returns-in-Ok
returns-in-Ok c =
    let lexed = c.in-Ok.lexed in
    IfOk-weaker c.of_lexed.result _ _
    (λ finding is. with_tokens lexed.tokens lexed.comments c.in-Ok.ensures.read is) c.of_lexed.ensures

-- the fault that was found
pub returns-in-Err : goal.returns-in-Err
returns-in-Err c =
    IfOk-weaker c.lexical.result _ _
    (λ finding is. first_fault _ c.args.text.now _ c.in-Err.error finding refl c.in-Err.ensures.stopped is)
    c.lexical.ensures
