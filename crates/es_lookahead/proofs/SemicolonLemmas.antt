-- Looking for a `;` directly between two places.
use Rattle.std.specs.Prelude.{List, true, false}
use Rattle.std.proofs.Common.{◌≡◌, ℕ, zero, suc, ◌≤◌, ◌<◌, refl, slice_get}
use Rattle.std.proofs.lemmas.Bool.{le-ltb, lt-ltb}
use Rattle.es_token.specs.declared.token.TokenKind.TheVariants as k
use Rattle.grammar_theory.specs.Key.{Key, seen, is}
use Rattle.es_grammar.specs.types.Words.{partner_of}
use Rattle.es_grammar.specs.types.Statements.{step_over, has_semicolon}

-- nothing stands behind the end
pub none_behind : (K : List Key) (turns at to : ℕ) → to ≤ at → has_semicolon K turns at to ≡ false
none_behind K zero at to past = refl
none_behind K (suc n) at to past = rw (le-ltb at to past) refl

-- one more token was looked at
pub one_turn : (K : List Key) (turns left at to : ℕ) → turns ≡ suc left → at < to → is k.Semicolon (seen K at) ≡ false
    → has_semicolon K turns at to ≡ has_semicolon K left (step_over at (partner_of (slice_get K at))) to
one_turn K turns left at to e less other = rw (e, lt-ltb at to less, other) refl

pub found_here : (K : List Key) (turns left at to : ℕ) → turns ≡ suc left → at < to → is k.Semicolon (seen K at) ≡ true
    → has_semicolon K turns at to ≡ true
found_here K turns left at to e less here = rw (e, lt-ltb at to less, here) refl
