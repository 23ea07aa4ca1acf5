use Rattle.std.proofs.Common.{arith}
use Rattle.dts_overloads.proofs.names.cut.Goals as goal

-- the two places cut the text
pub between-requires-clause-ordered : goal.between-requires-clause-ordered
between-requires-clause-ordered c = let size = c.requires.ordered in rw c.range-range.ensures (omega (arith, size))

pub between-requires-clause-starts : goal.between-requires-clause-starts
between-requires-clause-starts c = rw c.range-range.ensures c.requires.starts

pub between-requires-clause-ends : goal.between-requires-clause-ends
between-requires-clause-ends c = rw c.range-range.ensures c.requires.ends
