-- Sites that stand on tokens, and those of them that have the ranges of changes.
use Rattle.std.specs.Prelude.{Bool, true, false, ◌||◌, List, [], ◌∷◌, ◌++◌, Some, slice_get, ◌⊎◌}
use Rattle.std.proofs.Common.{◌≡◌, ℕ, ◌+◌, ◌<◌, ◌≤◌, sym, ◌∙◌, arith, inl, inr}
use Rattle.base.specs.declared.range.Range.{Range}
use Rattle.es_token.specs.declared.token.Token.{Token}
use Rattle.es_site.specs.declared.site.Site.{Site}
use Rattle.es_law_texts.specs.site_order.Order.{StandOn}
use Rattle.source_text.specs.declared.text_changes.change.TextChange.{TextChange}
use Rattle.es_law_edits.specs.tokens.Moved.{is_range}
use Rattle.es_law_edits.specs.sites.Moved.{HasRange}

-- ---- sites on tokens
module _ (ts : List Token) where
  -- sites may stand among more tokens
  pub widen : (a b c d : ℕ) (sites : List Site) → a ≤ b → c ≤ d → StandOn ts b c sites → StandOn ts a d sites
  widen a b c d [] low high stand = let inner : b ≤ c = stand in omega (arith, inner)
  widen a b c d (site ∷ sites) low high stand =
      let first : b ≤ stand.0 = stand.2 in (
        stand.0,
        stand.1,
        omega (arith, first),
        stand.3,
        stand.4,
        widen (stand.0 + 1) (stand.0 + 1) c d sites (omega arith) high stand.5,
      )

  pub stand_ahead : (a b : ℕ) (sites : List Site) → StandOn ts a b sites → a ≤ b
  stand_ahead a b [] stand = stand
  stand_ahead a b (site ∷ sites) stand =
      let first : a ≤ stand.0 = stand.2 in
      let rest : stand.0 + 1 ≤ b = stand_ahead (stand.0 + 1) b sites stand.5 in
      omega (arith, first, rest)

  -- the sites of parts that stand behind each other
  pub both_stand : (a b c : ℕ) (s t : List Site) → StandOn ts a b s → StandOn ts b c t → StandOn ts a c (s ++ t)
  both_stand a b c [] t one other = let low : a ≤ b = one in widen a b c c t low (omega arith) other
  both_stand a b c (site ∷ s) t one other =
      (one.0, one.1, one.2, one.3, one.4, both_stand (one.0 + 1) b c s t one.5 other)

-- ---- ranges of changes
-- one of the changes has this range
abbrev pub touched : List TextChange → Range → Bool
touched [] r = false
touched (c ∷ cs) r = is_range c.range r || touched cs r

-- no two tokens have one range
abbrev pub Apart : List Token → Type 0
Apart ts =
    (m n : ℕ) (t u : Token) → m < n → slice_get ts m ≡ Some t → slice_get ts n ≡ Some u → t.range ≡ u.range → ⊥

-- each of these tokens that has the range of a change has that of one of these sites
abbrev pub Safe : List TextChange → List Token → ℕ → ℕ → List Site → Type 0
Safe changes ts a b sites =
    (n : ℕ) (t : Token) → a ≤ n → n < b → slice_get ts n ≡ Some t → touched changes t.range ≡ true
    → HasRange sites t.range

-- a token of this range
abbrev Ranged : List Token → ℕ → ℕ → Range → Type 0
Ranged ts a b r = (n : ℕ) × (t : Token) × (a ≤ n) × (n < b) × (slice_get ts n ≡ Some t) × (t.range ≡ r)

ranged : (ts : List Token) (a b : ℕ) (sites : List Site) (r : Range) → StandOn ts a b sites → HasRange sites r
    → Ranged ts a b r
ranged ts a b [] r stand h = absurd h
ranged ts a b (site ∷ sites) r stand (inl e) =
    let rest : stand.0 + 1 ≤ b = stand_ahead ts (stand.0 + 1) b sites stand.5 in
    (stand.0, stand.1, stand.2, omega (arith, rest), stand.3, sym stand.4 ∙ e)
ranged ts a b (site ∷ sites) r stand (inr h) =
    let rest = ranged ts (stand.0 + 1) b sites r stand.5 h in
    let first : a ≤ stand.0 = stand.2 in
    let low : stand.0 + 1 ≤ rest.0 = rest.2 in
    (rest.0, rest.1, omega (arith, first, low), rest.3, rest.4, rest.5)

one_more : (site : Site) (s t : List Site) (r : Range) → HasRange s r ⊎ HasRange t r
    → HasRange (site ∷ s) r ⊎ HasRange t r
one_more site s t r (inl h) = inl (inr h)
one_more site s t r (inr h) = inr h

in_either : (s t : List Site) (r : Range) → HasRange (s ++ t) r → HasRange s r ⊎ HasRange t r
in_either [] t r h = inr h
in_either (site ∷ s) t r (inl e) = inl (inl e)
in_either (site ∷ s) t r (inr h) = one_more site s t r (in_either s t r h)

only_left : {A B : Type 0} → A ⊎ B → (B → ⊥) → A
only_left (inl x) never = x
only_left (inr y) never = absurd (never y)

only_right : {A B : Type 0} → A ⊎ B → (A → ⊥) → B
only_right (inl x) never = absurd (never x)
only_right (inr y) never = y

module _ (changes : List TextChange) (ts : List Token) (apart : Apart ts) where
  -- of sites that stand behind each other, each has its own
  pub safe_left : (a b c d : ℕ) (s t : List Site) → b ≤ c → StandOn ts c d t → Safe changes ts a d (s ++ t)
      → Safe changes ts a b s
  safe_left a b c d s t le stand safe n u low high at touch =
      let ahead : c ≤ d = stand_ahead ts c d t stand in
      only_left (in_either s t u.range (safe n u low (omega (arith, ahead, le, high)) at touch))
      (λ h. (let other = ranged ts c d t u.range stand h in
      let behind : c ≤ other.0 = other.2 in
      apart n other.0 u other.1 (omega (arith, behind, le, high)) at other.4 (sym other.5)))

  pub safe_right : (a b c d : ℕ) (s t : List Site) → b ≤ c → StandOn ts a b s → Safe changes ts a d (s ++ t)
      → Safe changes ts c d t
  safe_right a b c d s t le stand safe n u low high at touch =
      let ahead : a ≤ b = stand_ahead ts a b s stand in
      only_right (in_either s t u.range (safe n u (omega (arith, ahead, le, low)) high at touch))
      (λ h. (let other = ranged ts a b s u.range stand h in
      let before : other.0 < b = other.3 in
      apart other.0 n other.1 u (omega (arith, before, le, low)) other.4 at other.5))

  pub narrower : (a b c d : ℕ) (s : List Site) → a ≤ b → c ≤ d → Safe changes ts a d s → Safe changes ts b c s
  narrower a b c d s low high safe n u from to at touch =
      safe n u (omega (arith, low, from)) (omega (arith, high, to)) at touch
