use Rattle.std.proofs.Common.{sym}
use Rattle.graph_entry.specs.Specifier.{text_of}
use Rattle.graph_builder.proofs.NumberLemmas.{absent, key_of_number}
use Rattle.graph_builder.proofs.reaching.Reaching.fill_in_hand.Goals as goal

pub unreachable-requires : goal.unreachable-requires
unreachable-requires g c =
    c.requires.there (absent c.args.self.now.reached (text_of c.args.url.now) (sym c.in-None.ensures.value))

pub returns-clause-fills : goal.returns-clause-fills
returns-clause-fills g c =
    c.fill.ensures.fills (text_of c.args.url.now)
    (key_of_number c.args.self.now.reached (text_of c.args.url.now) c.in-Some.number (sym c.in-Some.ensures.value))
