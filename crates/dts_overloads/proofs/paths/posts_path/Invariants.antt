-- What is left of the parts takes the names on as all do.
use Rattle.std.proofs.Common.{length}
use Rattle.es_syntax.specs.Held.{held}
use Rattle.dts_overloads.proofs.PathLemmas.{PathLeft}
use Rattle.dts_overloads.proofs.paths.posts_path.Given as goal

abbrev pub invariant-loop-turn : goal.invariant-loop-turn
invariant-loop-turn l =
    PathLeft l.initial.names l.names (held l.text l.tokens l.others.entries.now)
    (held l.text l.tokens l.row.entries.now)

abbrev pub decreases-loop-turn : goal.decreases-loop-turn
decreases-loop-turn l = length l.row.entries.now
