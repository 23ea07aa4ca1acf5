use Rattle.std.proofs.Common.{◌∙◌}
use Rattle.dts_keys.proofs.ChainLemmas.{this_chain, word_chain}
use Rattle.dts_keys.proofs.chains.word_chain.Goals as goal

-- another word
pub returns-then-not-is_kind-clause-written : goal.returns-then-not-is_kind-clause-written
returns-then-not-is_kind-clause-written c = λ e env x.
    word_chain env x _ _ _ _ _ _ _ _ _ (c.is_kind.ensures ∙ c.if-not-is_kind.true)
    (c.nameless_key.ensures.written e env x)

-- `this`
pub returns-clause-written : goal.returns-clause-written
returns-clause-written c = λ e env x.
    this_chain env x _ _ _ _ _ _ _ _ (c.is_kind.ensures ∙ c.if-not-is_kind.false)
    (c.is_over.ensures c.if-not-is_over.false) (c.path_key.ensures.written e env x)
