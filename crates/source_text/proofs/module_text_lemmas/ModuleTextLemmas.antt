-- The byte order mark at the front of a text.
use Rattle.std.proofs.Common.{◌≡◌, ◌∙◌, sym, ap, refl, Bool, true, false, cond, List, ℕ, ◌+◌, ◌/◌, ◌%◌, [], ◌∷◌, ◌++◌, drop, get_or, arith}
use Rattle.std.specs.Prelude.{None, nat_lt}
use Rattle.std.specs.Char.{encode_utf8}
use Rattle.std.proofs.lemmas.Bool.{ltb-true}
use Rattle.std.specs.Str.Pattern.{FindsTextPrefix}
use Rattle.std.proofs.lemmas.Str.Pattern.{starts_text}
use Rattle.lexical_path.specs.Specifiers.{begins}
use Rattle.source_text.specs.module_text.ModuleText.{mark, without_mark}

-- a text behind a mark
pub without_mark-marked : (text rest : List ℕ) → text ≡ 0xEF ∷ 0xBB ∷ 0xBF ∷ rest → without_mark text ≡ rest
unfolding without_mark
without_mark-marked text rest marked = ap without_mark marked

-- a text without one
pub without_mark-unmarked : (text : List ℕ) → FindsTextPrefix mark text None → without_mark text ≡ text
unfolding without_mark
without_mark-unmarked text unmarked =
    let lacks : begins text mark ≡ false = sym (starts_text false mark text unmarked) in
    rw lacks refl

-- ---- a mark is one character

-- a character of which the first byte in UTF-8 is that of a mark has three bytes
three_bytes : (c b : ℕ) (rest tail : List ℕ) → encode_utf8 c ++ rest ≡ 0xEF ∷ b ∷ 0xBF ∷ tail → rest ≡ tail
unfolding encode_utf8
three_bytes c b rest tail is = by (nat_lt c 128) (nat_lt c 2048) (nat_lt c 65536) refl refl refl is
  where
    next : ℕ → ℕ
    next n = 128 + n % 64

    by : (one two three : Bool) → nat_lt c 128 ≡ one → nat_lt c 2048 ≡ two → nat_lt c 65536 ≡ three
        → cond one (c ∷ []) (cond two ((192 + c / 64) ∷ next c ∷ [])
        (cond three ((224 + c / 4096) ∷ next (c / 64) ∷ next c ∷ [])
        ((240 + c / 262144) ∷ next (c / 4096) ∷ next (c / 64) ∷ next c ∷ []))) ++ rest ≡ 0xEF ∷ b ∷ 0xBF ∷ tail
        → rest ≡ tail
    by true two three p q r e = absurd (omega (arith, ltb-true c 128 p, ap (λ (l : List ℕ). get_or l 0 0) e))
    by false true three p q r e = absurd (omega (arith, ltb-true c 2048 q, ap (λ (l : List ℕ). get_or l 0 0) e))
    by false false true p q r e = ap (drop 3) e
    by false false false p q r e = absurd (omega (arith, ap (λ (l : List ℕ). get_or l 0 0) e))

-- a text behind a mark, and behind its first character
pub without_mark-cut : (text after rest : List ℕ) (c : ℕ) → text ≡ 0xEF ∷ 0xBB ∷ 0xBF ∷ after
    → text ≡ encode_utf8 c ++ rest → rest ≡ without_mark text
without_mark-cut text after rest c marked cut =
    three_bytes c 0xBB rest after (sym cut ∙ marked) ∙ sym (without_mark-marked text after marked)
