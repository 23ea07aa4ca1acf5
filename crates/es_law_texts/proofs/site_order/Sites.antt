-- Lists of sites that stand on tokens, in order.
use Rattle.std.specs.Prelude.{List, [], ◌∷◌, ◌++◌, Some, slice_get}
use Rattle.std.proofs.Common.{◌≡◌, ℕ, ◌+◌, ◌<◌, ◌≤◌, arith}
use Rattle.es_token.specs.declared.token.Token.{Token}
use Rattle.es_ast.specs.declared.ts.leaf.Str.{Str}
use Rattle.es_site.specs.declared.site.Site.{Site}
use Rattle.es_law_texts.specs.site_order.Order.{StandOn}

-- a string literal is one of these tokens
abbrev pub StrOn : List Token → ℕ → ℕ → Str → Type 0
StrOn ts a b s =
    (n : ℕ) × (t : Token) × (a ≤ n) × (n < b) × (slice_get ts n ≡ Some t) × (s.span ≡ t.range)

module _ (ts : List Token) where
  -- sites may stand among more tokens
  pub widen : (a b c d : ℕ) (sites : List Site) → a ≤ b → c ≤ d → StandOn ts b c sites → StandOn ts a d sites
  widen a b c d [] low high stand = let inner : b ≤ c = stand in omega (arith, inner)
  widen a b c d (site ∷ sites) low high stand =
      let first : b ≤ stand.0 = stand.2 in (
        stand.0,
        stand.1,
        omega (arith, first),
        stand.3,
        stand.4,
        widen (stand.0 + 1) (stand.0 + 1) c d sites (omega arith) high stand.5,
      )

  pub forward : (a b : ℕ) (sites : List Site) → StandOn ts a b sites → a ≤ b
  forward a b [] stand = stand
  forward a b (site ∷ sites) stand =
      let first : a ≤ stand.0 = stand.2 in
      let rest : stand.0 + 1 ≤ b = forward (stand.0 + 1) b sites stand.5 in
      omega (arith, first, rest)

  -- the sites of parts that stand behind each other
  pub both : (a b c : ℕ) (xs ys : List Site) → StandOn ts a b xs → StandOn ts b c ys → StandOn ts a c (xs ++ ys)
  both a b c [] ys one other = let low : a ≤ b = one in widen a b c c ys low (omega arith) other
  both a b c (x ∷ xs) ys one other =
      (one.0, one.1, one.2, one.3, one.4, both (one.0 + 1) b c xs ys one.5 other)

  pub str_widen : (a b c d : ℕ) (s : Str) → a ≤ b → c ≤ d → StrOn ts b c s → StrOn ts a d s
  str_widen a b c d s low high on =
      let first : b ≤ on.0 = on.2 in
      let last : on.0 < c = on.3 in
      (on.0, on.1, omega (arith, first), omega (arith, last), on.4, on.5)
