use Rattle.std.proofs.Common.{sym, ◌∙◌}
use Rattle.dts_keys.proofs.ChainLemmas.{nameless}
use Rattle.dts_keys.proofs.chains.nameless_key.Goals as goal

-- what was written is taken back
pub returns-in-None-clause-written : goal.returns-in-None-clause-written
returns-in-None-clause-written c = λ e env x start base n.
    let f = sym c.back_to.ensures.failed ∙ e in
    let g = c.chain_end.ensures.before f in
    nameless env x _ _ start base n (c.open-place.ensures.written g) (c.open-place.ensures.place g)
    (c.in-None.ensures.written f env x) c.back_to.ensures.row
