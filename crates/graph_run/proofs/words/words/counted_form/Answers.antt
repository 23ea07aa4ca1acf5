-- The words are the name and the number.
use Rattle.std.proofs.Common.{ap, List, ℕ, [], ◌∷◌}
use Rattle.graph_run.proofs.words.words.counted_form.Goals as goal

pub returns-in-make-clause-form : goal.returns-in-make-clause-form
returns-in-make-clause-form c = (
  c.args.count.now,
  ap (λ (w : List ℕ). w ∷ c.args.count.now ∷ []) c.in-make.is,
  (c.count_of.ensures c.in_ok-number.number).0 c.in_ok-number.was,
)

pub returns-in-sum-clause-form : goal.returns-in-sum-clause-form
returns-in-sum-clause-form c = (
  c.args.count.now,
  ap (λ (w : List ℕ). w ∷ c.args.count.now ∷ []) c.in-sum.is,
  (c.count_of.ensures c.in_ok-number.number).0 c.in_ok-number.was,
)

pub returns-in-make-clause-within : goal.returns-in-make-clause-within
returns-in-make-clause-within c =
    let counted = (c.count_of.ensures c.in_ok-number.number).0 c.in_ok-number.was in counted.2

pub returns-in-sum-clause-within : goal.returns-in-sum-clause-within
returns-in-sum-clause-within c =
    let counted = (c.count_of.ensures c.in_ok-number.number).0 c.in_ok-number.was in counted.2
