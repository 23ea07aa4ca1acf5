use Rattle.std.proofs.Common.{◌≡◌, map, drop}
use Rattle.graph_policy.specs.Seen.{seen_texts}
use Rattle.graph_policy.specs.Breach.{first_breach}
use Rattle.graph_policy.proofs.breach.first_breach.Given as goal

-- none so far is forbidden
abbrev pub invariant-loop-one : goal.invariant-loop-one
invariant-loop-one l =
    (l.at ≡ l.one-index) × (first_breach l.policy 0 (map seen_texts l.seen)
    ≡ first_breach l.policy l.at (map seen_texts (drop l.one-index l.seen)))
