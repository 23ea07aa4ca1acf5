-- What is listed by now, and of the names that are left, is what is listed of all.
use Rattle.std.specs.Prelude.{filter_map}
use Rattle.std.proofs.Common.{◌≡◌, ◌++◌, length}
use Rattle.es_mentions.specs.Mentions.{name_mention}
use Rattle.es_mentions.proofs.free.listed_names.Given as goal

abbrev pub invariant-loop-id : goal.invariant-loop-id
invariant-loop-id l =
    l.out ++ filter_map (name_mention l.source.text.now l.source.tokens.now l.source.allowed.now l.source.script) l.row
    ≡ filter_map (name_mention l.source.text.now l.source.tokens.now l.source.allowed.now l.source.script) l.ids

abbrev pub decreases-loop-id : goal.decreases-loop-id
decreases-loop-id l = length l.row
