-- The literal ends where what is left of it does.
use Rattle.std.proofs.Common.{◌≡◌, ◌+◌, ◌<◌, ◌^◌, length}
use Rattle.es_literal.specs.Strings.{body_end, string_end}
use Rattle.es_lexer.proofs.spans.body_from.Given as goal

abbrev pub invariant-loop-rest : goal.invariant-loop-rest
invariant-loop-rest l = record {
  same : string_end l.start l.whole ≡ body_end l.quote l.at l.rest;
  fits : l.at + length l.rest < 2 ^ 64;
}

abbrev pub decreases-loop-rest : goal.decreases-loop-rest
decreases-loop-rest l = length l.rest
