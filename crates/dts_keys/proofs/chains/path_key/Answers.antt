use Rattle.std.proofs.Common.{sym, ◌∙◌}
use Rattle.dts_keys.proofs.ChainLemmas.{path_none, path_written}
use Rattle.dts_keys.proofs.chains.path_key.Goals as goal

-- what was written is taken back
pub returns-in-None-clause-written : goal.returns-in-None-clause-written
returns-in-None-clause-written c = λ e env x.
    let f = sym c.back_to.ensures.failed ∙ e in
    let g = c.chain_end.ensures.before f in
    let h = c.token.ensures.before g in
    let i = c.open-path.ensures.before h in
    path_none env x _ _ _ _ (c.open-place.ensures.written (c.gone.ensures.before i))
    (c.open-place.ensures.place (c.gone.ensures.before i)) (c.gone.ensures.written i x _)
    (c.open-path.ensures.written h)
    (c.token.ensures.written g x _) (c.in-None.ensures.written f env x) c.back_to.ensures.row

-- opened, the tokens, closed
pub returns-else-end-to-clause-written : goal.returns-else-end-to-clause-written
returns-else-end-to-clause-written c = λ e env x.
    let f = c.close_form.ensures.before e in
    let g = c.close.ensures.before f in
    let h = c.chain_end.ensures.before g in
    let i = c.token.ensures.before h in
    let j = c.open-path.ensures.before i in
    let k = c.gone.ensures.before j in
    path_written env x _ _ _ _ c.if-end-to.false c.path_form.ensures (c.open-place.ensures.written k)
    (c.open-place.ensures.place k) (c.gone.ensures.written j x _) (c.open-path.ensures.written i)
    (c.open-path.ensures.place i) (c.token.ensures.written h x _) (c.in-Some.ensures.written g env x)
    (c.close.ensures.written f) (c.close_form.ensures.written e)
