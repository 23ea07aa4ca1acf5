-- The draft's clauses, of what is answered.
use Rattle.es_lowering.specs.Value.{part}
use Rattle.es_syntax.specs.Held.{held}
use Rattle.es_syntax.specs.Roles.{program_in}
use Rattle.deno_dts.proofs.DeclareLemmas.{by_ranges, tree_answered, found_answered}
use Rattle.deno_dts.proofs.declaring.declare.Goals as goal

pub returns-clause-tree : goal.returns-clause-tree
returns-clause-tree c =
    let f = c.finished-2.ensures in
    tree_answered c.finished-2.result c.parts.result.0.now c.parts.result.1.now c.parts.result.2.entries.now
    c.args.numbers.now c.args.unresolved c.args.made c.args.ranges.now c.in_ok-draft.draft c.in_ok-copy.field-0
    c.args.program.now f.failed f.row f.text f.tokens c.in_ok-copy.ensures c.parts.ensures.text c.parts.ensures.tokens
    c.parts.ensures.typed
    (by_ranges c.parts.result.0.now c.parts.result.1.now c.args.numbers.now c.args.unresolved c.args.made
    c.set.result.now c.args.ranges.now c.in_ok-draft.draft
    (program_in (part (held c.parts.result.0.now c.parts.result.1.now c.parts.result.2.entries.now) 0))
    c.set.ensures c.in_ok-draft.ensures)

pub returns-clause-found : goal.returns-clause-found
returns-clause-found c =
    let f = c.finished-2.ensures in
    found_answered c.finished-2.result c.parts.result.0.now c.parts.result.1.now c.parts.result.2.entries.now
    c.args.numbers.now c.args.unresolved c.args.made c.args.ranges.now c.in_ok-draft.draft c.args.program.now f.failed
    f.found f.made c.parts.ensures.tokens c.parts.ensures.typed
    (by_ranges c.parts.result.0.now c.parts.result.1.now c.args.numbers.now c.args.unresolved c.args.made
    c.set.result.now c.args.ranges.now c.in_ok-draft.draft
    (program_in (part (held c.parts.result.0.now c.parts.result.1.now c.parts.result.2.entries.now) 0))
    c.set.ensures c.in_ok-draft.ensures)
