use Rattle.std.proofs.Common.{◌≡◌, ◌∙◌, ap, string_bytes}
use Rattle.std.proofs.lemmas.Result.{IfOk-weaker}
use Rattle.source_text.specs.text_changes.Changes.{changed}
use Rattle.source_text.proofs.text_changes_lemmas.ChangesLemmas.{changed-none}
use Rattle.source_text.proofs.text_changes.apply.apply_text_changes.Goals as goal

-- no changes in order are none
pub returns-clause-unchanged : goal.returns-clause-unchanged
returns-clause-unchanged c =
    λ none. IfOk-weaker c.applied.result
    (λ text. string_bytes text ≡ changed c.args.source.now 0 c.as_slice.result.now)
    (λ text. string_bytes text ≡ c.args.source.now)
    (λ text is. is ∙ ap (changed c.args.source.now 0) c.as_slice.ensures.value
    ∙ changed-none c.args.source.now c.args.changes.items c.in_ok-changes.changes.items none
    c.in_ok-changes.ensures)
    c.applied.ensures.value
