use Rattle.std.proofs.Common.{◌+◌, ◌*◌}
use Rattle.graph_builder.proofs.batched.+analyse_by_halves+fn-analyse_by_halves-join+arg2+fn-analyse_by_halves-join+arg3.Given as goal

-- how often is still halved; a half lies between
abbrev pub decreases-analyse_by_halves : goal.decreases-analyse_by_halves
decreases-analyse_by_halves g l = 2 * l.halvings

abbrev pub decreases-join+arg2 : goal.decreases-join+arg2
decreases-join+arg2 g l = 2 * l.fewer + 1

abbrev pub decreases-join+arg3 : goal.decreases-join+arg3
decreases-join+arg3 g l = 2 * l.fewer + 1
