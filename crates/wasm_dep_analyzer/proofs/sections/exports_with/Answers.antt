-- The first exports stay; a section of another kind changes nothing; a new section holds the first, or a fault.
use Rattle.std.proofs.Common.{refl, sym, ◌∙◌}
use Rattle.std.proofs.lemmas.Result.{err_from_is_err_and}
use Rattle.wasm_dep_analyzer.specs.Sections.{exports_of}
use Rattle.wasm_dep_analyzer.specs.Steps.{section, found_exports}
use Rattle.wasm_dep_analyzer.proofs.SectionLemmas.{is_some_map, held_stays, held_other, held_new, held_fault}
use Rattle.wasm_dep_analyzer.proofs.sections.exports_with.Goals as goal

pub returns-then-is_some : goal.returns-then-is_some
returns-then-is_some c = λ ss h.
    held_stays exports_of 7 ss _ (found_exports c.args.exports)
    (is_some_map _ c.args.exports ∙ sym c.is_some.ensures ∙ c.if-is_some.true) h

pub returns-then-piece-ne-EXPORTS : goal.returns-then-piece-ne-EXPORTS
returns-then-piece-ne-EXPORTS c = λ ss h.
    held_other exports_of 7 ss (section c.args.piece.now) (found_exports c.args.exports) c.if-piece-ne-EXPORTS.true h

pub returns-in_err-found : goal.returns-in_err-found
returns-in_err-found c =
    let p = err_from_is_err_and c.from_residual.result c.from_residual.ensures.1 in
    rw (p.1, p.2) (λ ss h. held_fault exports_of 7 ss (section c.args.piece.now) (found_exports c.args.exports)
    c.in_err-found.field-0.0
    (is_some_map _ c.args.exports ∙ sym c.is_some.ensures ∙ c.if-is_some.false) c.if-piece-ne-EXPORTS.false h
    c.in_err-found.ensures)

pub returns : goal.returns
returns c = λ ss h.
    held_new exports_of 7 ss (section c.args.piece.now) (found_exports c.args.exports)
    (is_some_map _ c.args.exports ∙ sym c.is_some.ensures ∙ c.if-is_some.false) c.if-piece-ne-EXPORTS.false h
    ∙ rw c.in_ok-found.ensures refl
