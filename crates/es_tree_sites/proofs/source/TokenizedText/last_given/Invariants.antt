-- What is left of the turns tells what all of them do.
use Rattle.std.specs.Prelude.{option_map, None}
use Rattle.std.proofs.Common.{◌≡◌, length}
use Rattle.es_law_sites.specs.plain.Own.{last_given}
use Rattle.es_tree_sites.specs.Parts.{parts_in, there}
use Rattle.es_tree_sites.proofs.source.TokenizedText.last_given.Given as goal

abbrev pub invariant-loop-turn : goal.invariant-loop-turn
invariant-loop-turn l =
    last_given l.self.text.now l.self.tokens.now l.word (option_map (there l.self) l.last) (parts_in l.self l.row)
    ≡ last_given l.self.text.now l.self.tokens.now l.word None (parts_in l.self l.props)

abbrev pub decreases-loop-turn : goal.decreases-loop-turn
decreases-loop-turn l = length l.row.entries.now
