-- What is seen of the keys of tokens is what stands in the tokens.
use Rattle.std.specs.Prelude.{List, [], ◌∷◌, Option, Some, None, slice_get, Bool, true, false, ◌&&◌, ◌==◌}
use Rattle.std.proofs.Common.{◌≡◌, ℕ, zero, suc, ◌-◌, ◌≤◌, length, refl, sym, ap, ◌∙◌, arith}
use Rattle.std.proofs.lemmas.Option.{slice_get_past}
use Rattle.es_token.specs.declared.token.Token.{Token}
use Rattle.es_token.specs.declared.token.TokenKind.{TokenKind}
use Rattle.grammar_theory.specs.Key.{TokenTest, Seen, seen, keys_of, keys_after, same_kind}
use Rattle.es_grammar.specs.types.Words.{partner_of}
use Rattle.es_grammar.specs.types.Expressions.{is_joined, joins}

-- ---- what is seen

-- what is seen of a token
abbrev pub token_seen : Option Token → Option Seen
token_seen (Some t) = Some (record { kind = t.kind; line_before = t.line_before })
token_seen None = None

seen_after : (end : ℕ) (ts : List Token) (at : ℕ) → seen (keys_after end ts) at ≡ token_seen (slice_get ts at)
seen_after end [] at = refl
seen_after end (t ∷ ts) zero = refl
seen_after end (t ∷ ts) (suc at) = seen_after t.range.end ts at

pub seen-keys_of : (ts : List Token) (at : ℕ) → seen (keys_of ts) at ≡ token_seen (slice_get ts at)
seen-keys_of [] at = refl
seen-keys_of (t ∷ ts) zero = refl
seen-keys_of (t ∷ ts) (suc at) = seen_after t.range.end ts at

length-keys_after : (end : ℕ) (ts : List Token) → length (keys_after end ts) ≡ length ts
length-keys_after end [] = refl
length-keys_after end (t ∷ ts) = ap suc (length-keys_after t.range.end ts)

pub length-keys_of : (ts : List Token) → length (keys_of ts) ≡ length ts
length-keys_of [] = refl
length-keys_of (t ∷ ts) = ap suc (length-keys_after t.range.end ts)

-- a token that is there
pub seen_some : (ts : List Token) (at : ℕ) (t : Token) → Some t ≡ slice_get ts at
    → Some (record { kind = t.kind; line_before = t.line_before }) ≡ seen (keys_of ts) at
seen_some ts at t e = ap token_seen e ∙ sym (seen-keys_of ts at)

-- no token behind the last
pub seen_none : (ts : List Token) (at : ℕ) → None ≡ slice_get ts at → None ≡ seen (keys_of ts) at
seen_none ts at e = ap token_seen e ∙ sym (seen-keys_of ts at)

-- a test of a token that is there
pub look_some : (t : TokenTest) (ts : List Token) (at : ℕ) (tok : Token) → Some tok ≡ slice_get ts at
    → t (Some (record { kind = tok.kind; line_before = tok.line_before })) ≡ t (seen (keys_of ts) at)
look_some t ts at tok e = ap t (seen_some ts at tok e)

-- a test at the end
pub look_none : (t : TokenTest) (ts : List Token) (at : ℕ) → None ≡ slice_get ts at → t None ≡ t (seen (keys_of ts) at)
look_none t ts at e = ap t (seen_none ts at e)

pub seen_past : (ts : List Token) (at : ℕ) → length ts ≤ at → None ≡ seen (keys_of ts) at
seen_past ts at past = seen_none ts at (sym (slice_get_past ts at past))

-- a test behind the last
pub look_past : (t : TokenTest) (ts : List Token) (at : ℕ) → length ts ≤ at → t None ≡ t (seen (keys_of ts) at)
look_past t ts at past = ap t (seen_past ts at past)

-- ---- partners

-- the partner of a token
abbrev pub token_partner : Option Token → Option ℕ
token_partner (Some t) = t.partner
token_partner None = None

partner_after : (end : ℕ) (ts : List Token) (at : ℕ)
    → token_partner (slice_get ts at) ≡ partner_of (slice_get (keys_after end ts) at)
partner_after end [] at = refl
partner_after end (t ∷ ts) zero = refl
partner_after end (t ∷ ts) (suc at) = partner_after t.range.end ts at

pub partner-keys_of : (ts : List Token) (at : ℕ)
    → token_partner (slice_get ts at) ≡ partner_of (slice_get (keys_of ts) at)
partner-keys_of [] at = refl
partner-keys_of (t ∷ ts) zero = refl
partner-keys_of (t ∷ ts) (suc at) = partner_after t.range.end ts at

pub partner_some : (ts : List Token) (at : ℕ) (t : Token) → Some t ≡ slice_get ts at
    → t.partner ≡ partner_of (slice_get (keys_of ts) at)
partner_some ts at t e = ap token_partner e ∙ partner-keys_of ts at

pub partner_none : (ts : List Token) (at : ℕ) → None ≡ slice_get ts at → None ≡ partner_of (slice_get (keys_of ts) at)
partner_none ts at e = ap token_partner e ∙ partner-keys_of ts at

-- ---- adjacent tokens

-- a token of this kind starts where another ends
abbrev pub joined_by : TokenKind → Option Token → Option Token → Bool
joined_by kind None b = false
joined_by kind (Some a) None = false
joined_by kind (Some a) (Some b) = same_kind b.kind kind && (b.range.start == a.range.end)

joined_after : (kind : TokenKind) (end : ℕ) (ts : List Token) (at : ℕ)
    → joined_by kind (slice_get ts at) (slice_get ts (suc at)) ≡ is_joined kind (slice_get (keys_after end ts) (suc at))
joined_after kind end [] at = refl
joined_after kind end (t ∷ []) zero = refl
joined_after kind end (t ∷ []) (suc at) = refl
joined_after kind end (t ∷ u ∷ ts) zero = refl
joined_after kind end (t ∷ u ∷ ts) (suc at) = joined_after kind t.range.end (u ∷ ts) at

joined-keys_of : (kind : TokenKind) (ts : List Token) (at : ℕ)
    → joined_by kind (slice_get ts at) (slice_get ts (suc at)) ≡ is_joined kind (slice_get (keys_of ts) (suc at))
joined-keys_of kind [] at = refl
joined-keys_of kind (t ∷ []) zero = refl
joined-keys_of kind (t ∷ []) (suc at) = refl
joined-keys_of kind (t ∷ u ∷ ts) zero = refl
joined-keys_of kind (t ∷ u ∷ ts) (suc at) = joined_after kind t.range.end (u ∷ ts) at

and_false : (b : Bool) → false ≡ b && false
and_false true = refl
and_false false = refl

-- the first token joins none
pub joins_first : (kind : TokenKind) (ts : List Token) (at : ℕ) → at ≡ 0 → false ≡ joins kind (keys_of ts) at
unfolding joins
joins_first kind [] zero e = refl
joins_first kind (t ∷ ts) zero e = and_false (same_kind t.kind kind)
joins_first kind ts (suc n) e = absurd (let bad : ⊥ = omega arith in bad)

pub joins_by : (kind : TokenKind) (ts : List Token) (at : ℕ) (a b : Option Token) → (at ≡ 0 → ⊥)
    → a ≡ slice_get ts (at - 1) → b ≡ slice_get ts at → joined_by kind a b ≡ joins kind (keys_of ts) at
unfolding joins
joins_by kind ts zero a b ne one two = absurd (ne refl)
joins_by kind ts (suc n) a b ne one two =
    let e : suc n - 1 ≡ n = omega arith in
    let last : a ≡ slice_get ts n = one ∙ ap (slice_get ts) e in
    rw (last, two) (joined-keys_of kind ts n)

-- both tokens are there
pub joins_then : (kind : TokenKind) (ts : List Token) (at : ℕ) (a b : Token) (same : Bool) → (at ≡ 0 → ⊥)
    → Some a ≡ slice_get ts (at - 1) → Some b ≡ slice_get ts at → same ≡ same_kind b.kind kind → same ≡ true
    → (b.range.start == a.range.end) ≡ joins kind (keys_of ts) at
joins_then kind ts at a b same ne one two e holds =
    let by : same_kind b.kind kind && (b.range.start == a.range.end) ≡ joins kind (keys_of ts) at =
    joins_by kind ts at (Some a) (Some b) ne one two in
    ap (λ s. s && (b.range.start == a.range.end)) (sym holds ∙ e) ∙ by

pub joins_else : (kind : TokenKind) (ts : List Token) (at : ℕ) (a b : Token) (same : Bool) → (at ≡ 0 → ⊥)
    → Some a ≡ slice_get ts (at - 1) → Some b ≡ slice_get ts at → same ≡ same_kind b.kind kind → same ≡ false
    → same ≡ joins kind (keys_of ts) at
joins_else kind ts at a b same ne one two e fails =
    let by : same_kind b.kind kind && (b.range.start == a.range.end) ≡ joins kind (keys_of ts) at =
    joins_by kind ts at (Some a) (Some b) ne one two in
    fails ∙ ap (λ s. s && (b.range.start == a.range.end)) (sym fails ∙ e) ∙ by
