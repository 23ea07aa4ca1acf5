-- The first imports stay; a section of another kind changes nothing; a new section holds the first, or a fault.
use Rattle.std.proofs.Common.{refl, sym, ◌∙◌}
use Rattle.std.proofs.lemmas.Result.{err_from_is_err_and}
use Rattle.wasm_dep_analyzer.specs.Sections.{imports_of}
use Rattle.wasm_dep_analyzer.specs.Steps.{section, found_imports}
use Rattle.wasm_dep_analyzer.proofs.SectionLemmas.{is_some_map, held_stays, held_other, held_new, held_fault}
use Rattle.wasm_dep_analyzer.proofs.sections.imports_with.Goals as goal

pub returns-then-is_some : goal.returns-then-is_some
returns-then-is_some c = λ ss h.
    held_stays imports_of 2 ss _ (found_imports c.args.imports)
    (is_some_map _ c.args.imports ∙ sym c.is_some.ensures ∙ c.if-is_some.true) h

pub returns-then-piece-ne-IMPORTS : goal.returns-then-piece-ne-IMPORTS
returns-then-piece-ne-IMPORTS c = λ ss h.
    held_other imports_of 2 ss (section c.args.piece.now) (found_imports c.args.imports) c.if-piece-ne-IMPORTS.true h

pub returns-in_err-found : goal.returns-in_err-found
returns-in_err-found c =
    let p = err_from_is_err_and c.from_residual.result c.from_residual.ensures.1 in
    rw (p.1, p.2) (λ ss h. held_fault imports_of 2 ss (section c.args.piece.now) (found_imports c.args.imports)
    c.in_err-found.field-0.0
    (is_some_map _ c.args.imports ∙ sym c.is_some.ensures ∙ c.if-is_some.false) c.if-piece-ne-IMPORTS.false h
    c.in_err-found.ensures)

pub returns : goal.returns
returns c = λ ss h.
    held_new imports_of 2 ss (section c.args.piece.now) (found_imports c.args.imports)
    (is_some_map _ c.args.imports ∙ sym c.is_some.ensures ∙ c.if-is_some.false) c.if-piece-ne-IMPORTS.false h
    ∙ rw c.in_ok-found.ensures refl
