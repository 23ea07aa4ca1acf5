use Rattle.es_comments.specs.Placed.{placed_in}
use Rattle.deno_ast.proofs.ScopeLemmas.{are_ids}
use Rattle.source_declarations.proofs.DeclarationLemmas.{are_of}
use Rattle.source_declarations.proofs.read.program_declarations.Goals as goal

-- what the steps gave
pub returns : goal.returns
returns c =
    let program = c.args.program.now in
    let text = c.parts.result.0.now in
    let tokens = c.parts.result.1.now in
    let it = c.in_ok-declarations.field-0 in
    are_of program text tokens c.parts.ensures.text c.parts.ensures.tokens c.args.comments.now c.args.with_comments
    (placed_in c.in_ok-placed.placed) c.in_ok-shared.shared c.in_ok-numbers.numbers c.in_ok-ranges.ranges
    it.declarations it.found it.made c.in_ok-text_of.field-0 c.in_ok-placed.ensures c.in_ok-shared.ensures
    (are_ids program text tokens c.parts.ensures.text c.parts.ensures.tokens c.parts.result.2.entries.now
    c.parts.ensures.entries c.in_ok-numbers.numbers c.in_ok-numbers.ensures)
    c.in_ok-ranges.ensures c.in_ok-declarations.ensures.tree c.in_ok-declarations.ensures.found
    c.in_ok-declarations.ensures.text c.in_ok-declarations.ensures.tokens c.in_ok-declarations.ensures.numbers
    c.in_ok-text_of.ensures
