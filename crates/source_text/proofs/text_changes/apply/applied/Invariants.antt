-- The changes so far have no fault and are written; the rest decides.
use Rattle.std.proofs.Common.{◌≡◌, false, ◌++◌, drop, string_bytes}
use Rattle.source_text.specs.text_changes.Changes.{cuts_character, first_fault, changed}
use Rattle.source_text.proofs.text_changes.apply.applied.Given as goal

abbrev pub invariant-loop-number : goal.invariant-loop-number
invariant-loop-number l = record {
  outside : cuts_character l.source l.past ≡ false;
  faults : first_fault l.source l.past l.number (drop l.number l.changes) ≡ first_fault l.source 0 0 l.changes;
  written : string_bytes l.text ++ changed l.source l.past (drop l.number l.changes) ≡ changed l.source 0 l.changes;
}
