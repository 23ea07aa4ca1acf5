use Rattle.std.proofs.Common.{◌∙◌}
use Rattle.dts_member_keys.proofs.LookLemmas.{named_known, no_known, private_known}
use Rattle.dts_member_keys.proofs.symbols.is_known_at.Goals as goal

-- `#a`
pub returns-then-is_kind : goal.returns-then-is_kind
returns-then-is_kind c =
    private_known c.args.env.now.text.now _ (c.is_kind.ensures ∙ c.if-is_kind.true)

pub returns-in-Some : goal.returns-in-Some
returns-in-Some c =
    named_known c.args.env.now.text.now _ c.in-Some.ensures.token _ _ (c.is_kind.ensures ∙ c.if-is_kind.false)
    c.in-Some.ensures.there c.in-Some.ensures.sym c.is_known.ensures

pub returns-in-None : goal.returns-in-None
returns-in-None c = no_known c.args.env.now.text.now _ _ c.in-None.ensures
