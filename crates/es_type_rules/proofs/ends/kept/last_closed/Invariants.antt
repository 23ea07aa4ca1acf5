use Rattle.std.specs.Prelude.{false}
use Rattle.std.proofs.Common.{◌≡◌, ℕ, ◌≤◌}
use Rattle.es_token.specs.declared.token.TokenKind.TheVariants as k
use Rattle.grammar_theory.specs.Key.{keys_of, seen, is}
use Rattle.es_type_rules.proofs.ends.kept.last_closed.Given as goal

-- no `>` was seen so far
abbrev pub invariant-tokens : goal.invariant-tokens
invariant-tokens l = (q : ℕ) → l.left ≤ q → is k.Greater (seen (keys_of l.tokens.tokens.now) q) ≡ false

abbrev pub decreases-tokens : goal.decreases-tokens
decreases-tokens l = l.left
