use Rattle.std.specs.Prelude.{false}
use Rattle.std.proofs.Common.{◌≡◌, ℕ, ◌<◌, ◌≤◌}
use Rattle.grammar_theory.specs.Key.{keys_of, seen}
use Rattle.es_grammar.specs.types.TypeNames.{begins_angle}
use Rattle.es_lookahead.specs.Ends.{AreRight}
use Rattle.es_type_rules.proofs.ends.kept.angles_of.Given as goal

-- what is kept so far is right, and nothing begins between the last item and this token
abbrev pub invariant-tokens : goal.invariant-tokens
invariant-tokens l =
    AreRight (keys_of l.tokens) l.angles.items
    × ((q : ℕ) → l.left ≤ q → q < l.low → begins_angle (seen (keys_of l.tokens) q) ≡ false)

abbrev pub decreases-tokens : goal.decreases-tokens
decreases-tokens l = l.left
