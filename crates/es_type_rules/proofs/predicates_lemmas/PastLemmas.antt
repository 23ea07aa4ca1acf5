-- Behind the last token no mapped type opens.
use Rattle.std.specs.Prelude.{List, false, ◌&&◌, ◌||◌}
use Rattle.std.proofs.Common.{◌≡◌, ℕ, ◌+◌, ◌≤◌, length, arith}
use Rattle.es_token.specs.declared.token.Token.{Token}
use Rattle.es_token.specs.declared.token.TokenKind.TheVariants as k
use Rattle.grammar_theory.specs.Key.{keys_of, is, has_kind}
use Rattle.es_grammar.specs.types.Words.{is_sign}
use Rattle.es_grammar.specs.types.Types.{shows_mapped, opens_mapped}
use Rattle.es_lookahead.proofs.TokenLemmas.{look_past}
use Rattle.es_lookahead.proofs.PastLemmas.{and_left, or_both}

shows_past : (ts : List Token) (at : ℕ) → length ts ≤ at → false ≡ shows_mapped (keys_of ts) at
unfolding shows_mapped
shows_past ts at past = and_left _ _ (look_past (is k.OpenBracket) ts at past)

pub mapped_past : (ts : List Token) (at : ℕ) → length ts ≤ at → false ≡ opens_mapped (keys_of ts) at
unfolding opens_mapped
mapped_past ts at past =
    let behind : length ts ≤ at + 1 = omega arith in
    or_both _ _ (shows_past ts (at + 1) behind)
    (or_both _ _ (and_left _ _ (look_past (is k.ReadonlyWord) ts (at + 1) behind))
    (and_left _ _ (look_past (has_kind is_sign) ts (at + 1) behind)))
