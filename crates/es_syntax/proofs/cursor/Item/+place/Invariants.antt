-- It goes down by the entries below.
use Rattle.std.proofs.Common.{length}
use Rattle.es_syntax.proofs.cursor.Item.+place.Given as goal

abbrev pub decreases-place : goal.decreases-place
decreases-place l = length l.self.now.parts.entries.now
