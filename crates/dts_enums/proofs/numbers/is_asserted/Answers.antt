use Rattle.es_syntax.specs.Held.{held}
use Rattle.es_lowering.specs.Texts.{span_of}
use Rattle.dts_enums.proofs.TurnLemmas.{const_turn, type_turn}
use Rattle.dts_enums.proofs.numbers.is_asserted.Goals as goal

-- by what is after the word
pub returns-in-Leaf : goal.returns-in-Leaf
returns-in-Leaf c = λ x env r e kind same. rw c.in-Leaf.is (const_turn env r e kind c.args.it.now.from)

pub returns-in-Node : goal.returns-in-Node
returns-in-Node c = λ x env r e kind same.
    let ts = c.args.tokens.now in
    let i = c.args.it.now in
    rw c.in-Node.is
    (type_turn env r e kind x ts c.in-Node.label i.from i.to (held x ts i.parts.entries.now) c.args.is_as
    c.is_number_type-number.result c.both.result same c.both.ensures
    (c.is_number_type-number.ensures x (span_of ts i.from i.to)))
