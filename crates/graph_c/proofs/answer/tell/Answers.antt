use Rattle.std.proofs.Common.{◌≡◌, ◌∙◌, ap, ℕ, List, ◌++◌, length, drop}
use Rattle.graph_c.specs.declared.answer.SourceSite.{SourceSite}
use Rattle.graph_c.specs.Told.{after}
use Rattle.graph_c.proofs.AnswerLemmas.{put_after, kept_after, tells_laid}
use Rattle.graph_c.proofs.answer.tell.Goals.{then-fit, else-fit}
use Rattle.graph_c.proofs.answer.tell.Goals as goal

-- what was laid out is told, and put where it fits
pub returns-clause-told : goal.returns-clause-told
returns-clause-told c =
    let laid = c.in_ok-laid.laid in
    let fit = c.are_within-fit.result in
    let sites = c.args.sites.now in
    let values = c.args.values.now in
    let sites_are : c.if-fit.sites ≡ after fit laid.sites.items sites = elim c.if-fit.branch [
      | then-fit w ↦ w.sites-is ∙ put_after fit laid.sites.items sites w.put.new.room w.if-fit.true
          (w.put.ensures ∙ ap (λ (t : List SourceSite). t ++ drop (length t) sites) w.as_slice.ensures.value)
      | else-fit w ↦ kept_after fit laid.sites.items sites c.if-fit.sites w.if-fit.false w.sites-is
    ] in
    let values_are : c.if-fit.values ≡ after fit laid.values.items values = elim c.if-fit.branch [
      | then-fit w ↦ w.values-is ∙ put_after fit laid.values.items values w.put-then-fit.new.room w.if-fit.true
          (w.put-then-fit.ensures ∙ ap (λ (t : List ℕ). t ++ drop (length t) values) w.as_slice-then-fit.ensures.value)
      | else-fit w ↦ kept_after fit laid.values.items values c.if-fit.values w.if-fit.false w.values-is
    ] in
    tells_laid c.args.finding.now c.found_in.result.now laid.sites.items sites c.if-fit.sites laid.values.items values
    c.if-fit.values c.len-needed_sites.result c.len-needed_values.result c.fault_of.result c.place_of.result
    c.status_of.result fit c.found_in.ensures c.in_ok-laid.ensures.sites c.in_ok-laid.ensures.values
    (c.len-needed_sites.ensures ∙ c.in_ok-laid.ensures.counted)
    (c.len-needed_values.ensures ∙ c.in_ok-laid.ensures.filled)
    c.are_within-fit.ensures c.fault_of.ensures c.place_of.ensures c.status_of.ensures sites_are values_are
