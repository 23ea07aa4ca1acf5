-- The first payload of a kind stays; a section of another kind changes nothing; a new one is the first.
use Rattle.std.proofs.Common.{sym, ◌∙◌}
use Rattle.wasm_dep_analyzer.specs.Steps.{section}
use Rattle.wasm_dep_analyzer.proofs.SectionLemmas.{payload_stays, payload_other, payload_new}
use Rattle.wasm_dep_analyzer.proofs.sections.payload_with.Goals as goal

pub returns-then-is_some : goal.returns-then-is_some
returns-then-is_some c =
    λ ss h. payload_stays c.args.kind ss (section c.args.piece.now) c.args.payload
    (sym c.is_some.ensures ∙ c.if-is_some.true) h

pub returns-then-piece-kind : goal.returns-then-piece-kind
returns-then-piece-kind c =
    λ ss h. payload_other c.args.kind ss (section c.args.piece.now) c.args.payload c.if-piece-kind.true h

pub returns : goal.returns
returns c = λ ss h. sym
    (payload_new c.args.kind ss (section c.args.piece.now) c.args.payload (sym c.is_some.ensures ∙ c.if-is_some.false)
    c.if-piece-kind.false h)
