use Rattle.std.specs.Prelude.{Some}
use Rattle.es_token.specs.declared.token.TokenKind.TheVariants as k
use Rattle.es_syntax.specs.Held.{held}
use Rattle.es_syntax.specs.declared.entry.What.TheVariants as vWhat
use Rattle.dts_sets.proofs.LiteralLemmas.{at_place, type_at_place, const_turn, type_before, parts_turn, lean_turn}
use Rattle.dts_sets.proofs.literals.is_asserted_as.Goals as goal

-- by what is before it
pub returns-in-Leaf : goal.returns-in-Leaf
returns-in-Leaf c = λ r e known.
    let x = c.args.text.now in
    let ts = c.args.tokens.now in
    at_place x ts c.args.it.now r e (Some k.AsWord) c.args.before vWhat.Leaf c.in-Leaf.is
    (const_turn ts r e c.args.before known c.args.it.now.from (Some k.AsWord))

pub returns-in-Node : goal.returns-in-Node
returns-in-Node c = λ r e known.
    let x = c.args.text.now in
    let ts = c.args.tokens.now in
    at_place x ts c.args.it.now r e (Some k.AsWord) c.is_array_type.result (vWhat.Node c.in-Node.field-0) c.in-Node.is
    (type_before ts r e c.args.before known x c.in-Node.field-0 c.args.it.now.from c.args.it.now.to
    (held x ts c.args.it.now.parts.entries.now) c.is_array_type.result
    (type_at_place x ts c.args.it.now (vWhat.Node c.in-Node.field-0) c.is_array_type.result c.in-Node.is
    c.is_array_type.ensures))

pub returns-in-Parts : goal.returns-in-Parts
returns-in-Parts c = λ r e known.
    let x = c.args.text.now in
    let ts = c.args.tokens.now in
    at_place x ts c.args.it.now r e (Some k.AsWord) c.args.before vWhat.Parts c.in-Parts.is
    (parts_turn ts r e c.args.before known x c.args.it.now.parts.entries.now (Some k.AsWord))

pub returns-in-Lean : goal.returns-in-Lean
returns-in-Lean c = λ r e known.
    let x = c.args.text.now in
    let ts = c.args.tokens.now in
    at_place x ts c.args.it.now r e (Some k.AsWord) c.args.before (vWhat.Lean c.in-Lean.field-0) c.in-Lean.is
    (lean_turn ts r e c.args.before known x c.in-Lean.field-0 c.args.it.now.from c.args.it.now.parts.entries.now
    (Some k.AsWord))
