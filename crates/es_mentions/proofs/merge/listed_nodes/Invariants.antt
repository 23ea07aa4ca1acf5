-- What is listed by now, and of the events that are left, is what is listed of all.
use Rattle.std.specs.Prelude.{filter_map}
use Rattle.std.proofs.Common.{◌≡◌, ◌++◌, length}
use Rattle.es_mentions.specs.Mentions.{listed_in}
use Rattle.es_mentions.proofs.merge.listed_nodes.Given as goal

abbrev pub invariant-loop-event : goal.invariant-loop-event
invariant-loop-event l = l.out ++ filter_map listed_in l.row ≡ filter_map listed_in l.events

abbrev pub decreases-loop-event : goal.decreases-loop-event
decreases-loop-event l = length l.row
