-- What is left of the turns tells what all of them do.
use Rattle.std.specs.Prelude.{true}
use Rattle.std.proofs.Common.{◌≡◌, length}
use Rattle.es_law_sites.specs.plain.Own.{are_plain}
use Rattle.es_tree_sites.specs.Parts.{parts_in}
use Rattle.es_tree_sites.proofs.source.TokenizedText.are_plain.Given as goal

abbrev pub invariant-loop-turn : goal.invariant-loop-turn
invariant-loop-turn l =
    are_plain l.self.text.now l.self.tokens.now l.plain (parts_in l.self l.row)
    ≡ are_plain l.self.text.now l.self.tokens.now true (parts_in l.self l.props)

abbrev pub decreases-loop-turn : goal.decreases-loop-turn
decreases-loop-turn l = length l.row.entries.now
