use Rattle.dts_draft.proofs.StepLemmas.{kept_written}
use Rattle.dts_draft.proofs.draft.Draft.keep.Goals as goal

-- where the text goes on with it, it is kept
pub returns-clause-written : goal.returns-clause-written
returns-clause-written c = λ e x ts.
    let f = c.keep_there.ensures.before e in
    kept_written x ts _ _ _ _ (c.gone.ensures.written f x ts) (c.keep_there.ensures.written e x ts)
