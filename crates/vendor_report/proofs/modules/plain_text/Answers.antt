-- The file's bytes are a text, or not.
use Rattle.std.proofs.Common.{◌∙◌, sym, ap, subst, Some, IsUtf8}
use Rattle.vendor_report.proofs.FileLemmas.{coded_name, coded_bytes, plain}
use Rattle.vendor_report.proofs.modules.plain_text.Goals as goal

pub returns-then-is_wasm : goal.returns-then-is_wasm
returns-then-is_wasm c = sym (coded_name c.args.file.now (sym c.is_wasm.ensures ∙ c.if-is_wasm.true))

pub returns-in-Ok : goal.returns-in-Ok
returns-in-Ok c =
    ap Some (c.in-Ok.ensures.cases.0 ∙ c.as_slice.ensures)
    ∙ sym (plain c.args.file.now (sym c.is_wasm.ensures ∙ c.if-is_wasm.false)
    (subst IsUtf8 c.as_slice.ensures c.in-Ok.ensures.cases.1))

pub returns-in-Err : goal.returns-in-Err
returns-in-Err c =
    sym (coded_bytes c.args.file.now (λ utf8. c.in-Err.ensures.cases.0 (subst IsUtf8 (sym c.as_slice.ensures) utf8)))
