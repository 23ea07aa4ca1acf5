use Rattle.std.proofs.Common.{◌∙◌}
use Rattle.dts_operands.proofs.CalleeLemmas.{base_other}
use Rattle.dts_operands.proofs.callees.base_callee.Goals as goal

-- anything but a name and a chain
pub returns-in-Other-clause-is : goal.returns-in-Other-clause-is
returns-in-Other-clause-is c = λ by knows.
    base_other by c.args.env.now.text.now c.args.env.now.tokens.now c.args.base.now _ c.in-Node.is c.in-Other.ensures
