use Rattle.std.proofs.Common.{◌≡◌, ◌∙◌, refl, ap, List, ◌++◌, length, drop}
use Rattle.graph_c.specs.declared.declarations.SourceDiagnostic.{SourceDiagnostic}
use Rattle.graph_c.specs.Told.{after}
use Rattle.graph_c.proofs.AnswerLemmas.{put_after, kept_after}
use Rattle.graph_c.proofs.DeclarationLemmas.{tells_declared}
use Rattle.graph_c.proofs.declarations.tell_declarations.Goals.{then-fit, else-fit}
use Rattle.graph_c.proofs.declarations.tell_declarations.Goals as goal

-- what was recorded is told, and put where it fits
pub returns-clause-told : goal.returns-clause-told
returns-clause-told c =
    let records = c.in_ok-records.records in
    let text = c.declared_text-text.result.now in
    let fit = c.are_within-fit.result in
    let diagnostics = c.args.diagnostics.now in
    let room = c.args.room.now in
    let diagnostics_are : c.if-fit.diagnostics ≡ after fit records.items diagnostics = elim c.if-fit.branch [
      | then-fit w ↦ w.diagnostics-is ∙ put_after fit records.items diagnostics w.put.new.room w.if-fit.true
          (w.put.ensures ∙ ap (λ (t : List SourceDiagnostic). t ++ drop (length t) diagnostics) w.as_slice.ensures.value)
      | else-fit w ↦ kept_after fit records.items diagnostics c.if-fit.diagnostics w.if-fit.false w.diagnostics-is
    ] in
    let room_is : c.if-fit.room ≡ after fit text room = elim c.if-fit.branch [
      | then-fit w ↦ w.room-is ∙ put_after fit text room w.put-then-fit.new.room w.if-fit.true w.put-then-fit.ensures
      | else-fit w ↦ kept_after fit text room c.if-fit.room w.if-fit.false w.room-is
    ] in
    tells_declared c.args.finding.now c.diagnostics_in.result.now records.items diagnostics c.if-fit.diagnostics text
    room c.if-fit.room c.len-needed.result (length text) c.fault_of.result c.place_of.result
    c.status_of.result fit c.diagnostics_in.ensures c.in_ok-records.ensures.records c.declared_text-text.ensures
    (c.len-needed.ensures ∙ c.in_ok-records.ensures.counted) refl
    c.are_within-fit.ensures c.fault_of.ensures c.place_of.ensures c.status_of.ensures diagnostics_are room_is
