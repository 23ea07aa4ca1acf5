use Rattle.std.proofs.Common.{◌∙◌}
use Rattle.dts_keys.proofs.PostLemmas.{hidden_ends, member_ends, member_goes}
use Rattle.dts_keys.proofs.posts.member_end.Goals as goal

-- `.#a`
pub returns-then-is_kind-clause-written : goal.returns-then-is_kind-clause-written
returns-then-is_kind-clause-written c = λ e env x.
    hidden_ends env x _ _ _ (c.is_kind.ensures ∙ c.if-is_kind.true)

-- behind what is no name
pub returns-then-not-named-clause-written : goal.returns-then-not-named-clause-written
returns-then-not-named-clause-written c = λ e env x.
    member_ends env x _ _ _ (c.is_kind.ensures ∙ c.if-is_kind.false) c.if-not-named.true

-- behind a name
pub returns-clause-written : goal.returns-clause-written
returns-clause-written c = λ e env x.
    member_goes env x _ _ (c.is_kind.ensures ∙ c.if-is_kind.false) c.if-not-named.false (c.token.ensures.written e x _)
