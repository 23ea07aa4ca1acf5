use Rattle.shared_analyses.proofs.KeptLemmas.{kept_right}
use Rattle.shared_analyses.proofs.kept.keep.Goals as goal

pub invariant_of-new : goal.invariant_of-new
invariant_of-new c = record {
  right = kept_right c.args.specifier.now c.in_ok-clone.field-0 c.args.answer.now c.in_ok-copy.field-0
      c.in_ok-copy-2.field-0 c.in_ok-entry.entry c.in_ok-clone.ensures.cases c.in_ok-copy.ensures
      c.in_ok-copy-2.ensures c.in_ok-entry.ensures;
}
