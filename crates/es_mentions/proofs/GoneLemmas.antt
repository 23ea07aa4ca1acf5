-- Which tokens are gone, as a list of bits.
use Rattle.std.specs.Prelude.{ℕ, zero, suc, ◌+◌, ◌==◌, ◌<◌, ◌≤◌, nat_le, nat_lt, Bool, true, false, not, ◌&&◌, ◌||◌, if◌then◌else◌, List, [], ◌∷◌, ◌++◌, length, slice_set, filter}
use Rattle.std.proofs.Common.{◌≡◌, refl, sym, ap, ◌∙◌, arith}
use Rattle.std.proofs.lemmas.Bool.Decides.{nat_tests}
use Rattle.std.proofs.lemmas.List.Elements.{filter_agree}
use Rattle.es_scopes.specs.declared.steps.Mark.{Mark}
use Rattle.es_scopes.specs.declared.steps.Mark.TheVariants as mark
use Rattle.es_mentions.specs.declared.listed.Event.{Event}
use Rattle.es_mentions.specs.Mentions.{is_gone_in, is_gone_token, lives, living}
use Rattle.es_mentions.specs.Bits.{bit_in, AreGone, lives_by}

-- one bit more
pub bit_more : (bits : List Bool) (n : ℕ) → bit_in (bits ++ false ∷ []) n ≡ bit_in bits n
bit_more [] zero = refl
bit_more [] (suc n) = refl
bit_more (b ∷ bits) zero = refl
bit_more (b ∷ bits) (suc n) = bit_more bits n

-- one that is set
pub bit_set : (bits : List Bool) (at n : ℕ) → at < length bits
    → bit_in (slice_set bits at true) n ≡ (if at == n then true else bit_in bits n)
bit_set [] at n p = absurd (omega arith)
bit_set (b ∷ bits) zero zero p = refl
bit_set (b ∷ bits) zero (suc n) p = let apart : (zero == suc n) ≡ false = grind (arith, nat_tests) in
    rw (apart) refl
bit_set (b ∷ bits) (suc at) zero p = let apart : (suc at == zero) ≡ false = grind (arith, nat_tests) in
    rw (apart) refl
bit_set (b ∷ bits) (suc at) (suc n) p =
    let same : (suc at == suc n) ≡ (at == n) = grind (arith, nat_tests) in
    rw (same) (bit_set bits at n (omega arith))

-- in a range that grows
pub range_none : (from n : ℕ) (b : Bool) → b ≡ (b || (nat_le from n && nat_lt n from))
range_none from n true = refl
range_none from n false = let no : (nat_le from n && nat_lt n from) ≡ false = grind (arith, nat_tests) in sym no

or_true : (b : Bool) → (b || true) ≡ true
or_true true = refl
or_true false = refl

pub range_more : (from at next n : ℕ) (old b made : Bool) → from ≤ at → next ≡ at + 1
    → made ≡ (if at == n then true else b) → b ≡ (old || (nat_le from n && nat_lt n at))
    → made ≡ (old || (nat_le from n && nat_lt n next))
range_more from at next n old b made low is put so = by (at == n) refl
  where
    by : (c : Bool) → (at == n) ≡ c → made ≡ (old || (nat_le from n && nat_lt n next))
    by true e =
        let inside : (nat_le from n && nat_lt n next) ≡ true = grind (arith, nat_tests) in
        put ∙ ap (λ (k : Bool). if k then true else b) e ∙ sym (ap (λ (k : Bool). old || k) inside ∙ or_true old)
    by false e =
        let same : nat_lt n at ≡ nat_lt n next = grind (arith, nat_tests) in
        put ∙ ap (λ (k : Bool). if k then true else b) e ∙ so ∙ ap (λ (k : Bool). old || (nat_le from n && k)) same

pub range_end : (from at last n : ℕ) → from ≤ last → last < at → at ≤ last + 1
    → nat_lt n at ≡ nat_le n last
range_end from at last n p q r = grind (arith, nat_tests)

pub range_empty : (from last n : ℕ) (b : Bool) → last < from → b ≡ (b || (nat_le from n && nat_le n last))
range_empty from last n true p = refl
range_empty from last n false p =
    let no : (nat_le from n && nat_le n last) ≡ false = grind (arith, nat_tests) in sym no

-- ---- of events
or_assoc : (a b c : Bool) → ((a || b) || c) ≡ (a || (b || c))
or_assoc true b c = refl
or_assoc false b c = refl

pub gone_begin : (n : ℕ) → bit_in [] n ≡ false
gone_begin zero = refl
gone_begin (suc n) = refl

pub gone_more : (row rest : List Event) (e : Event) (n : ℕ) (old made whole : Bool) → row ≡ e ∷ rest
    → made ≡ (old || is_gone_in e n) → (old || is_gone_token row n) ≡ whole → (made || is_gone_token rest n) ≡ whole
gone_more row rest e n old made whole is put so =
    ap (λ b. b || is_gone_token rest n) put ∙ or_assoc old (is_gone_in e n) (is_gone_token rest n)
    ∙ sym (ap (λ es. old || is_gone_token es n) is) ∙ so

or_false : (b : Bool) → b ≡ (b || false)
or_false true = refl
or_false false = refl

pub gone_end : (row : List Event) (n : ℕ) (b whole : Bool) → length row ≡ 0 → (b || is_gone_token row n) ≡ whole
    → b ≡ whole
gone_end [] n b whole e so = or_false b ∙ so
gone_end (k ∷ row) n b whole e so = absurd (omega arith)

same_lives : (bits : List Bool) (events : List Event) → AreGone bits events → (m : Mark)
    → lives_by bits m ≡ lives events m
same_lives bits events are (mark.Name place token) = ap not (are token)
same_lives bits events are (mark.Open hoists) = refl
same_lives bits events are mark.Close = refl

-- the names that are left, by the bits
pub living_by : (bits : List Bool) (events : List Event) → AreGone bits events → (found : List Mark)
    → filter (lives_by bits) found ≡ living events found
living_by bits events are found = filter_agree (lives_by bits) (lives events) (same_lives bits events are) found
