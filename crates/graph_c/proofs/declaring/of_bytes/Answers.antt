use Rattle.std.proofs.Common.{refl}
use Rattle.std.proofs.lemmas.Result.{IfOk-weaker}
use Rattle.graph_c.specs.Finding.{with_text, no_text}
use Rattle.graph_c.proofs.declaring.of_bytes.Goals as goal

-- what the text has
pub returns-in-Ok : goal.returns-in-Ok
returns-in-Ok c =
    IfOk-weaker c.of_text.result _ _ (λ finding is. with_text c.in-Ok.text.now c.in-Ok.ensures.read is) c.of_text.ensures

-- they are no text
pub returns-in-Err : goal.returns-in-Err
returns-in-Err c = no_text c.in-Err.why c.in-Err.ensures.refused refl
