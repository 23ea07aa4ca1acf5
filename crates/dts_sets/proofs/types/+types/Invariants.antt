-- Types nest.
use Rattle.std.proofs.Common.{length, ◌+◌, ◌*◌}
use Rattle.dts_sets.proofs.types.+types.Given as goal

abbrev pub decreases-is_array_type : goal.decreases-is_array_type
decreases-is_array_type l = 4 * length l.it.now.parts.entries.now + 2

abbrev pub decreases-own_type : goal.decreases-own_type
decreases-own_type l = 4 * length l.parts.now.entries.now + 1

abbrev pub decreases-is_readonly_array : goal.decreases-is_readonly_array
decreases-is_readonly_array l = 4 * length l.parts.now.entries.now
