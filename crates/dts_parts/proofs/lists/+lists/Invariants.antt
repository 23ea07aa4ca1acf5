-- Lists in parentheses nest.
use Rattle.std.proofs.Common.{length, ◌+◌, ◌*◌}
use Rattle.dts_parts.proofs.lists.+lists.Given as goal

abbrev pub decreases-param_list : goal.decreases-param_list
decreases-param_list l = 4 * length l.it.now.parts.entries.now + 2

abbrev pub decreases-params_node : goal.decreases-params_node
decreases-params_node l = 4 * length l.parts.now.entries.now + 1

abbrev pub decreases-bracketed_list : goal.decreases-bracketed_list
decreases-bracketed_list l = 4 * length l.parts.now.entries.now
