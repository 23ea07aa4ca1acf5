use Rattle.std.proofs.Common.{refl}
use Rattle.dts_types.proofs.exprs.operand_ask.Goals as goal

pub returns : goal.returns
returns c = rw (c.either.ensures, c.either-2.ensures) refl
