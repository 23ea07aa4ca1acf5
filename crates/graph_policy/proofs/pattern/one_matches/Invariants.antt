use Rattle.std.proofs.Common.{◌≡◌, drop}
use Rattle.std.specs.List.{list_any}
use Rattle.graph_policy.specs.Pattern.{matches}
use Rattle.graph_policy.proofs.pattern.one_matches.Given as goal

-- none of the patterns so far matches
abbrev pub invariant-loop-pattern : goal.invariant-loop-pattern
invariant-loop-pattern l =
    list_any (λ p. matches p l.text) l.patterns ≡ list_any (λ p. matches p l.text) (drop l.pattern-index l.patterns)
