-- It goes down by the entries below.
use Rattle.std.proofs.Common.{◌+◌, ◌*◌, length}
use Rattle.es_program_reader.proofs.simple.+simple.Given as goal

abbrev pub decreases-is_simple : goal.decreases-is_simple
decreases-is_simple l = 3 * length l.item.parts.entries.now + 2

abbrev pub decreases-first_is_simple : goal.decreases-first_is_simple
decreases-first_is_simple l = 3 * length l.parts.entries.now

abbrev pub decreases-asserted_is_simple : goal.decreases-asserted_is_simple
decreases-asserted_is_simple l = 3 * length l.parts.entries.now

abbrev pub decreases-is_simple_node : goal.decreases-is_simple_node
decreases-is_simple_node l = 3 * length l.parts.entries.now + 1

abbrev pub decreases-is_simple_leaning : goal.decreases-is_simple_leaning
decreases-is_simple_leaning l = 3 * length l.parts.entries.now + 1
