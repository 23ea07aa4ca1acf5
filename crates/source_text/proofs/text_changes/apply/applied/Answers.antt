use Rattle.std.proofs.Common.{refl, rules}
use Rattle.source_text.proofs.text_changes_lemmas.ChangesLemmas.{start_outside}
use Rattle.source_text.proofs.text_changes.apply.applied.Goals as goal

pub loop-number-init : goal.loop-number-init
loop-number-init c = record {
  outside = start_outside c.args.source.now c.utf8.source;
  faults = refl;
  written = search rules;
}
