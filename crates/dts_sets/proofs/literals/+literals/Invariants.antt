-- Literals nest.
use Rattle.std.proofs.Common.{length, ◌+◌, ◌*◌}
use Rattle.dts_sets.proofs.literals.+literals.Given as goal

abbrev pub decreases-is_array_literal : goal.decreases-is_array_literal
decreases-is_array_literal l = 4 * length l.it.now.parts.entries.now + 2

abbrev pub decreases-own_literal : goal.decreases-own_literal
decreases-own_literal l = 4 * length l.parts.now.entries.now + 1

abbrev pub decreases-is_leaning : goal.decreases-is_leaning
decreases-is_leaning l = 4 * length l.parts.now.entries.now + 1
