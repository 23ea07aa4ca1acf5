use Rattle.dts_keys.proofs.PostLemmas.{both_go}
use Rattle.dts_keys.proofs.chains.chain_end.Goals as goal

-- the first, and the others
pub returns-clause-written : goal.returns-clause-written
returns-clause-written c = λ e env x.
    both_go env x _ (c.post_end-end.ensures.written (c.posts_end.ensures.before e) env x)
    (c.posts_end.ensures.written e env x)
