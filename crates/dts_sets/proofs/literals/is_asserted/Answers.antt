use Rattle.std.proofs.Common.{sym, ◌∙◌}
use Rattle.std.specs.Prelude.{option_map}
use Rattle.es_syntax.specs.Held.{held, token_there}
use Rattle.es_syntax.specs.declared.entry.What.TheVariants as vWhat
use Rattle.dts_sets.proofs.LiteralLemmas.{at_place, type_at_place, const_turn, as_turn, satisfies_turn, parts_turn, lean_turn}
use Rattle.dts_sets.proofs.literals.is_asserted.Goals as goal

-- by what is after the word
pub returns-in-Leaf : goal.returns-in-Leaf
returns-in-Leaf c = λ r e known.
    let x = c.args.text.now in
    let ts = c.args.tokens.now in
    let kind = option_map (λ t. t.kind) (token_there ts c.args.word) in
    at_place x ts c.args.it.now r e kind c.args.before vWhat.Leaf c.in-Leaf.is
    (const_turn ts r e c.args.before known c.args.it.now.from kind)

pub returns-in-Parts : goal.returns-in-Parts
returns-in-Parts c = λ r e known.
    let x = c.args.text.now in
    let ts = c.args.tokens.now in
    let kind = option_map (λ t. t.kind) (token_there ts c.args.word) in
    at_place x ts c.args.it.now r e kind c.args.before vWhat.Parts c.in-Parts.is
    (parts_turn ts r e c.args.before known x c.args.it.now.parts.entries.now kind)

pub returns-in-Lean : goal.returns-in-Lean
returns-in-Lean c = λ r e known.
    let x = c.args.text.now in
    let ts = c.args.tokens.now in
    let kind = option_map (λ t. t.kind) (token_there ts c.args.word) in
    at_place x ts c.args.it.now r e kind c.args.before (vWhat.Lean c.in-Lean.field-0) c.in-Lean.is
    (lean_turn ts r e c.args.before known x c.in-Lean.field-0 c.args.it.now.from c.args.it.now.parts.entries.now kind)

pub returns-then-is_word : goal.returns-then-is_word
returns-then-is_word c = λ r e known.
    let x = c.args.text.now in
    let ts = c.args.tokens.now in
    let kind = option_map (λ t. t.kind) (token_there ts c.args.word) in
    at_place x ts c.args.it.now r e kind c.is_array_type.result (vWhat.Node c.in-Node.field-0) c.in-Node.is
    (as_turn ts r e c.args.before known x c.in-Node.field-0 c.args.it.now.from c.args.it.now.to
    (held x ts c.args.it.now.parts.entries.now) c.args.word c.is_array_type.result
    (sym c.if-is_word.true ∙ c.is_word.ensures)
    (type_at_place x ts c.args.it.now (vWhat.Node c.in-Node.field-0) c.is_array_type.result c.in-Node.is
    c.is_array_type.ensures))

pub returns-else-is_word : goal.returns-else-is_word
returns-else-is_word c = λ r e known.
    let x = c.args.text.now in
    let ts = c.args.tokens.now in
    let kind = option_map (λ t. t.kind) (token_there ts c.args.word) in
    at_place x ts c.args.it.now r e kind c.args.before (vWhat.Node c.in-Node.field-0) c.in-Node.is
    (satisfies_turn ts r e c.args.before known x c.in-Node.field-0 c.args.it.now.from c.args.it.now.to
    (held x ts c.args.it.now.parts.entries.now) c.args.word (sym c.if-is_word.false ∙ c.is_word.ensures))
