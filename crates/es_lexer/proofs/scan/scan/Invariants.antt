-- The text is read up to the place.
use Rattle.std.proofs.Common.{◌≡◌, ◌-◌, length}
use Rattle.es_lexer.proofs.ScanLemmas.{SoFar}
use Rattle.es_lexer.proofs.scan.scan.Given as goal

abbrev pub invariant-pieces : goal.invariant-pieces
invariant-pieces l = record {
  same : l.bytes ≡ l.text;
  so_far : SoFar l.text l.at l.state l.brackets l.tokens l.comments;
}

abbrev pub decreases-pieces : goal.decreases-pieces
decreases-pieces l = length l.bytes - l.at
