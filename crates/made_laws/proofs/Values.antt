-- What a literal that imports stands for.
use Rattle.std.proofs.Common.{◌≡◌, ◌∙◌, refl, sym, ap, ℕ, zero, suc, ◌<◌, ◌^◌, List, [], ◌∷◌, ◌++◌, decimal, arith}
use Rattle.std.specs.Prelude.{codes, flat_map}
use Rattle.std.specs.Str.{IsAscii, chars, encode_utf8_all}
use Rattle.std.proofs.lemmas.Str.{chars-IsAscii, encodes-chars, IsUtf8-from_ascii}
use Rattle.es_literal.specs.Values.{value_of}
use Rattle.es_literal.specs.Quotes.{escaped, quoted}
use Rattle.es_literal.proofs.QuoteLemmas.{text_value}
use Rattle.made_laws.proofs.Digits.{each_digit}
use Rattle.made_laws.proofs.Joined.{import_text}
use Rattle.made_laws.proofs.Scan.{Each, each_append}
use Rattle.made_laws.proofs.Lines.{each_of}
use Rattle.made_laws.proofs.Bytes.{each_weaker}

abbrev IsPlainByte : ℕ → Type 0
IsPlainByte b = (b < 128) × (escaped b ≡ b ∷ [])

plain_number : (n : ℕ) → n < 2 ^ 64 → Each IsPlainByte (decimal n)
unfolding escaped
plain_number = each_of IsPlainByte
    (λ m l. (omega arith, each_digit (λ b. escaped b ≡ b ∷ []) refl refl refl refl refl refl refl refl refl refl m l))

plain_import : (j : ℕ) → j < 2 ^ 64 → Each IsPlainByte (import_text j)
unfolding escaped
plain_import j l = (
  (omega arith, refl),
  (
    (omega arith, refl),
    each_append IsPlainByte (decimal j) (codes ".ts") (plain_number j l)
        ((omega arith, refl), ((omega arith, refl), ((omega arith, refl), tt))),
  ),
)

pub ascii_of : (xs : List ℕ) → Each (λ b. b < 128) xs → IsAscii xs
ascii_of [] h i = omega arith
ascii_of (x ∷ xs) h zero = h.0
ascii_of (x ∷ xs) h (suc i) = ascii_of xs h.1 i

escaped_same : (xs : List ℕ) → Each IsPlainByte xs → flat_map escaped xs ≡ xs
escaped_same [] h = refl
escaped_same (x ∷ xs) h =
    ap (λ (l : List ℕ). l ++ flat_map escaped xs) h.0.1 ∙ ap (λ (l : List ℕ). x ∷ l) (escaped_same xs h.1)

pub import_value : (j : ℕ) → j < 2 ^ 64 → value_of (34 ∷ (import_text j ++ 34 ∷ [])) ≡ import_text j
unfolding quoted
import_value j l =
    let text = import_text j in
    let whole = 34 ∷ (text ++ 34 ∷ []) in
    let low = each_weaker IsPlainByte (λ b. b < 128) (λ b h. h.0) text (plain_import j l) in
    let ascii : IsAscii text = ascii_of text low in
    let around : IsAscii whole =
    ascii_of whole (omega arith, each_append (λ b. b < 128) text (34 ∷ []) low (omega arith, tt)) in
    let spelled : encode_utf8_all (quoted (chars text)) ≡ whole
    = ap (λ (cs : List ℕ). encode_utf8_all (quoted cs)) (chars-IsAscii text ascii)
    ∙ ap (λ (x : List ℕ). encode_utf8_all (34 ∷ (x ++ 34 ∷ []))) (escaped_same text (plain_import j l))
    ∙ ap encode_utf8_all (sym (chars-IsAscii whole around)) ∙ encodes-chars whole (IsUtf8-from_ascii whole around) in
    ap value_of (sym spelled) ∙ text_value text (IsUtf8-from_ascii text ascii)
