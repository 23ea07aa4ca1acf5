-- The words are those of a batch, and its number.
use Rattle.std.proofs.Common.{ap₂, List, ℕ, [], ◌∷◌}
use Rattle.graph_run.specs.words.Words.{batched}
use Rattle.graph_run.proofs.words.words.batched_form.Goals as goal

pub returns-in-build-text-clause-within : goal.returns-in-build-text-clause-within
returns-in-build-text-clause-within c =
    let counted = (c.count_of.ensures c.in_ok-batch.batch).0 c.in_ok-batch.was in counted.1

pub returns-in-build-text-clause-form : goal.returns-in-build-text-clause-form
returns-in-build-text-clause-form c =
    batched c.args.batch.now
    (ap₂ (λ (w o : List ℕ). w ∷ o ∷ c.args.batch.now ∷ []) c.in-build-text.is-build-0 c.in-build-text.is-text-1)
    ((c.count_of.ensures c.in_ok-batch.batch).0 c.in_ok-batch.was)
