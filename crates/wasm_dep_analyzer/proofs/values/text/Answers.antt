-- The test on the length of the longest valid front is the test whether the bytes are a text.
use Rattle.std.proofs.Common.{◌∙◌}
use Rattle.wasm_dep_analyzer.proofs.ValuesLemmas.{utf8_text-text, utf8_text-fault}
use Rattle.wasm_dep_analyzer.proofs.values.text.Goals as goal

pub returns-in-Ok : goal.returns-in-Ok
returns-in-Ok c = utf8_text-text c.args.bytes.now c.in-Ok.text.now c.in-Ok.ensures.cases.0 c.in-Ok.ensures.cases.1

pub returns-in-Err : goal.returns-in-Err
returns-in-Err c =
    utf8_text-fault c.args.bytes.now c.valid_up_to.result (c.valid_up_to.ensures ∙ c.in-Err.ensures.valid_len)
    c.in-Err.ensures.cases.0 (rw (c.valid_up_to.ensures) c.in-Err.ensures.cases.1.front)
