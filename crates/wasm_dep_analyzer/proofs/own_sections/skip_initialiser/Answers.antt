-- The first byte ends the initialiser, or what is sought stands behind it.
use Rattle.std.proofs.Common.{◌∙◌, sym, arith}
use Rattle.std.proofs.lemmas.Result.{err_from_is_err_and}
use Rattle.wasm_dep_analyzer.proofs.ModuleLemmas.{behind_end-none, behind_end-found, behind_end-on, length-first}
use Rattle.wasm_dep_analyzer.proofs.own_sections.skip_initialiser.Goals as goal

pub returns-in_err-byte : goal.returns-in_err-byte
returns-in_err-byte c =
    let p = err_from_is_err_and c.from_residual.result c.from_residual.ensures.1 in
    rw (p.1, p.2) (sym c.bytes.invariant
    ∙ behind_end-none c.bytes.rest.now c.in_err-byte.field-0.0 c.in_err-byte.ensures.value)

pub returns-then-byte-eq11 : goal.returns-then-byte-eq11
returns-then-byte-eq11 c =
    sym c.bytes.invariant
    ∙ behind_end-found c.bytes.rest.now c.in_ok-byte.byte c.in_ok-byte.after.now c.if-byte-eq11.true
    c.in_ok-byte.ensures.value

pub bytes-preserved : goal.bytes-preserved
bytes-preserved c =
    sym (behind_end-on c.bytes.rest.now c.in_ok-byte.byte c.in_ok-byte.after.now c.if-byte-eq11.false
    c.in_ok-byte.ensures.value) ∙ c.bytes.invariant

pub bytes-smaller : goal.bytes-smaller
bytes-smaller c = omega
    (arith, length-first c.bytes.rest.now c.in_ok-byte.byte c.in_ok-byte.after.now c.in_ok-byte.ensures.value)
