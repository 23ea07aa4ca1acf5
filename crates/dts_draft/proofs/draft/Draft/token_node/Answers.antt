use Rattle.dts_draft.proofs.StepLemmas.{token_written}
use Rattle.dts_draft.proofs.draft.Draft.token_node.Goals as goal

-- opened, written, closed
pub returns-clause-written : goal.returns-clause-written
returns-clause-written c = λ e x ts.
    let f = c.close_node.ensures.before e in
    let g = c.token.ensures.before f in
    token_written x ts _ _ _ _ _ _ _ _ _ (c.open-place.ensures.written g) (c.open-place.ensures.place g)
    (c.token.ensures.written f x ts) (c.close_node.ensures.written e)
