-- Tokens that read a text ascend, and so do sites that stand on tokens that ascend.
use Rattle.std.specs.Prelude.{List, [], ◌∷◌, Some, slice_get}
use Rattle.std.proofs.Common.{◌≡◌, ℕ, zero, suc, ◌+◌, ◌-◌, ◌<◌, ◌≤◌, refl, sym, ap, ◌∙◌, arith}
use Rattle.std.proofs.lemmas.Option.{none-some, same_Some}
use Rattle.es_token.specs.declared.token.Token.{Token}
use Rattle.es_token.specs.declared.token.Comment.{Comment}
use Rattle.es_lexer.specs.Reads.{Reads}
use Rattle.es_lexer.proofs.Theorems.{reads_within, reads_ascend}
use Rattle.es_site.specs.declared.site.Site.{Site}
use Rattle.es_law_texts.specs.site_order.Order.{Ascend, token_range, site_range, StandOn}

-- ---- tokens

-- what stands before an element
earlier : {X : Type 0} (xs : List X) (n : ℕ) (y : X) → slice_get xs (suc n) ≡ Some y
    → (x : X) × (slice_get xs n ≡ Some x)
earlier [] n y e = absurd (none-some y e)
earlier (x ∷ xs) zero y e = (x, refl)
earlier (x ∷ xs) (suc n) y e = earlier xs n y e

-- a token, and one some places behind it
apart_by : (x : List ℕ) (ts : List Token) (cs : List Comment) (m k : ℕ) (t u : Token) → Reads x ts cs
    → slice_get ts m ≡ Some t → slice_get ts (m + suc k) ≡ Some u → t.range.end ≤ u.range.start
apart_by x ts cs m zero t u reads f g =
    let place : m + 1 ≡ m + suc zero = omega arith in
    reads_ascend x ts cs m t u reads f (ap (slice_get ts) place ∙ g)
apart_by x ts cs m (suc k) t u reads f g =
    let place : suc (m + suc k) ≡ m + suc (suc k) = omega arith in
    let same : m + suc k + 1 ≡ m + suc (suc k) = omega arith in
    let found = earlier ts (m + suc k) u (ap (slice_get ts) place ∙ g) in
    let between : Token = found.0 in
    let here : slice_get ts (m + suc k) ≡ Some between = found.1 in
    let low : t.range.end ≤ between.range.start = apart_by x ts cs m k t between reads f here in
    let size : between.range.start < between.range.end = (reads_within x ts cs (m + suc k) between reads here).0 in
    let high : between.range.end ≤ u.range.start =
    reads_ascend x ts cs (m + suc k) between u reads here (ap (slice_get ts) same ∙ g) in
    omega (arith, low, size, high)

pub tokens_ascend : (x : List ℕ) (ts : List Token) (cs : List Comment) → Reads x ts cs → Ascend token_range ts
tokens_ascend x ts cs reads = record {
  filled = λ n t at. (reads_within x ts cs n t reads at).0;
  apart = λ m n t u less f g.
      let place : m + suc (n - suc m) ≡ n = omega arith in
      apart_by x ts cs m (n - suc m) t u reads f (ap (slice_get ts) place ∙ g);
}

-- ---- sites

-- the token that a site stands on
site_token : (ts : List Token) (from to : ℕ) (sites : List Site) (n : ℕ) (s : Site) → StandOn ts from to sites
    → slice_get sites n ≡ Some s
    → (k : ℕ) × (t : Token) × (from ≤ k) × (slice_get ts k ≡ Some t) × (s.range ≡ t.range)
site_token ts from to [] n s stand at = absurd (none-some s at)
site_token ts from to (site ∷ sites) zero s stand at =
    (stand.0, stand.1, stand.2, stand.3, ap site_range (sym (same_Some site s at)) ∙ stand.4)
site_token ts from to (site ∷ sites) (suc n) s stand at =
    let rest = site_token ts (stand.0 + 1) to sites n s stand.5 at in
    let low : from ≤ stand.0 = stand.2 in
    let high : stand.0 + 1 ≤ rest.0 = rest.2 in
    (rest.0, rest.1, omega (arith, low, high), rest.3, rest.4)

sites_apart : (ts : List Token) (from to : ℕ) (sites : List Site) (m n : ℕ) (s u : Site) → Ascend token_range ts
    → StandOn ts from to sites → m < n → slice_get sites m ≡ Some s → slice_get sites n ≡ Some u
    → s.range.end ≤ u.range.start
sites_apart ts from to [] m n s u ascend stand less f g = absurd (none-some s f)
sites_apart ts from to (site ∷ sites) m zero s u ascend stand less f g = absurd (let bad : ⊥ = omega arith in bad)
sites_apart ts from to (site ∷ sites) zero (suc n) s u ascend stand less f g =
    let found = site_token ts (stand.0 + 1) to sites n u stand.5 g in
    let first : Token = stand.1 in
    let second : Token = found.1 in
    let one : s.range.end ≡ first.range.end =
    ap (λ (i : Site). i.range.end) (sym (same_Some site s f)) ∙ ap (λ r. r.end) stand.4 in
    let other : u.range.start ≡ second.range.start = ap (λ r. r.start) found.4 in
    let high : stand.0 + 1 ≤ found.0 = found.2 in
    let apart : first.range.end ≤ second.range.start =
    ascend.apart stand.0 found.0 first second (omega (arith, high)) stand.3 found.3 in
    omega (arith, one, other, apart)
sites_apart ts from to (site ∷ sites) (suc m) (suc n) s u ascend stand less f g =
    sites_apart ts (stand.0 + 1) to sites m n s u ascend stand.5 (omega arith) f g

pub stand_ascend : (ts : List Token) (from to : ℕ) (sites : List Site) → Ascend token_range ts
    → StandOn ts from to sites
    → Ascend site_range sites
stand_ascend ts from to sites ascend stand = record {
  filled = λ n s at.
      let found = site_token ts from to sites n s stand at in
      let it : Token = found.1 in
      let size : it.range.start < it.range.end = ascend.filled found.0 it found.3 in
      let starts : s.range.start ≡ it.range.start = ap (λ r. r.start) found.4 in
      let ends : s.range.end ≡ it.range.end = ap (λ r. r.end) found.4 in
      omega (arith, size, starts, ends);
  apart = λ m n s u less f g. sites_apart ts from to sites m n s u ascend stand less f g;
}
