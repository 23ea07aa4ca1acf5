use Rattle.std.proofs.Common.{◌≡◌, ◌∙◌, refl, ap, ℕ, List, ◌++◌, length, drop}
use Rattle.graph_c.specs.declared.exports.SourceName.{SourceName}
use Rattle.graph_c.specs.Told.{after}
use Rattle.graph_c.proofs.AnswerLemmas.{put_after, kept_after}
use Rattle.graph_c.proofs.ExportLemmas.{tells_names}
use Rattle.graph_c.proofs.exports.tell_exports.Goals.{then-fit, else-fit}
use Rattle.graph_c.proofs.exports.tell_exports.Goals as goal

-- what was laid out is told, and put where it fits
pub returns-clause-told : goal.returns-clause-told
returns-clause-told c =
    let laid = c.in_ok-laid.laid in
    let fit = c.are_within-fit.result in
    let names = c.args.names.now in
    let values = c.args.values.now in
    let names_are : c.if-fit.names ≡ after fit laid.names.items names = elim c.if-fit.branch [
      | then-fit w ↦ w.names-is ∙ put_after fit laid.names.items names w.put.new.room w.if-fit.true
          (w.put.ensures ∙ ap (λ (t : List SourceName). t ++ drop (length t) names) w.as_slice.ensures.value)
      | else-fit w ↦ kept_after fit laid.names.items names c.if-fit.names w.if-fit.false w.names-is
    ] in
    let values_are : c.if-fit.values ≡ after fit laid.values.items values = elim c.if-fit.branch [
      | then-fit w ↦ w.values-is ∙ put_after fit laid.values.items values w.put-then-fit.new.room w.if-fit.true
          (w.put-then-fit.ensures ∙ ap (λ (t : List ℕ). t ++ drop (length t) values) w.as_slice-then-fit.ensures.value)
      | else-fit w ↦ kept_after fit laid.values.items values c.if-fit.values w.if-fit.false w.values-is
    ] in
    tells_names c.args.finding.now c.exports_in-exports.result.now c.reexports_in-reexports.result.now laid.names.items
    names c.if-fit.names laid.values.items values c.if-fit.values (length c.exports_in-exports.result.now)
    (length c.reexports_in-reexports.result.now)
    c.len-needed_names.result c.len-needed_values.result c.fault_of.result c.place_of.result c.status_of.result fit
    c.exports_in-exports.ensures c.reexports_in-reexports.ensures c.in_ok-laid.ensures.names c.in_ok-laid.ensures.values
    refl refl (c.len-needed_names.ensures ∙ c.in_ok-laid.ensures.counted)
    (c.len-needed_values.ensures ∙ c.in_ok-laid.ensures.filled)
    c.are_within-fit.ensures c.fault_of.ensures c.place_of.ensures c.status_of.ensures names_are values_are
