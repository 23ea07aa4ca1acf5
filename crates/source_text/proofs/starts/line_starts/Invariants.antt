-- where the lines start that start up to this place
use Rattle.source_text.specs.Table.{HasStarts}
use Rattle.source_text.proofs.starts.line_starts.Given as goal

abbrev pub invariant-loop-place : goal.invariant-loop-place
invariant-loop-place l = HasStarts l.text l.place l.starts.items
