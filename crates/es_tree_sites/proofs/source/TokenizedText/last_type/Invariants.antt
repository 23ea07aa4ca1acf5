-- What is left of the turns tells what all of them do.
use Rattle.std.specs.Prelude.{option_map, None, IfSome}
use Rattle.std.proofs.Common.{◌≡◌, length}
use Rattle.es_lowering.specs.Texts.{str_of}
use Rattle.es_law_sites.specs.plain.Own.{last_type}
use Rattle.es_tree_sites.specs.Parts.{parts_in, Cuts}
use Rattle.es_tree_sites.proofs.source.TokenizedText.last_type.Given as goal

abbrev pub invariant-loop-item : goal.invariant-loop-item
invariant-loop-item l =
    (last_type l.self.text.now l.self.tokens.now (option_map (str_of l.self.text.now) l.last) (parts_in l.self l.row)
    ≡ last_type l.self.text.now l.self.tokens.now None (parts_in l.self l.items))
    × IfSome l.last (Cuts l.self.text.now)

abbrev pub decreases-loop-item : goal.decreases-loop-item
decreases-loop-item l = length l.row.entries.now
