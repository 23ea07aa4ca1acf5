use Rattle.std.proofs.Common.{◌∙◌}
use Rattle.dts_operands.proofs.CalleeLemmas.{private_freeze, named_freeze}
use Rattle.dts_operands.proofs.callees.is_freeze.Goals as goal

-- `#freeze`
pub returns-then-is_kind : goal.returns-then-is_kind
returns-then-is_kind c = private_freeze c.args.env.now.text.now _ (c.is_kind.ensures ∙ c.if-is_kind.true)

pub returns-in-Some : goal.returns-in-Some
returns-in-Some c =
    named_freeze c.args.env.now.text.now _ c.in-Some.ensures.token _ c.eq.result
    (c.is_kind.ensures ∙ c.if-is_kind.false) c.in-Some.ensures.there c.in-Some.ensures.sym c.eq.ensures
