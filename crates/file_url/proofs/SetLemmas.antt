-- The code's set of bytes is the one that is written out, byte by byte.
use Rattle.std.proofs.Common.{◌≡◌, ◌∙◌, ℕ, ◌<◌, Bool, true, false, not, ◌||◌, ◌==◌, List, [], ◌∷◌, refl, sym, ap, ⊎_elim, arith}
use Rattle.std.specs.Prelude.{nat_lt, if◌then◌else◌}
use Rattle.std.specs.List.{flat_map}
use Rattle.std.proofs.lemmas.Bool.{cases_lt}
use Rattle.std.proofs.lemmas.Bool.Decides.{nat_tests}
use Rattle.percent_encoding.specs.AsciiSet.{contains, should_percent_encode}
use Rattle.percent_encoding.specs.Percent.{encode_byte, percent_encode, percent_encode_byte}
use Rattle.url.proofs.SetLemmas.{all_below, checked}
use Rattle.file_url.specs.declared.sets.TheConstants.{NAME}
use Rattle.file_url.specs.FileUrls.{is_escaped, escaped_byte}

-- two tests answer the same
abbrev same : Bool → Bool → Bool
same true b = b
same false b = not b

same_is : (a b : Bool) → same a b ≡ true → a ≡ b
same_is true b is = sym is
same_is false true is = is
same_is false false is = refl

-- of an ASCII byte
in_ascii : (b : ℕ) → b < 128 → contains NAME b ≡ is_escaped b
in_ascii b small = same_is _ _ (checked (λ x. same (contains NAME x) (is_escaped x)) 128 refl b small)

-- of any byte
byte_is_escaped : (b : ℕ) → should_percent_encode NAME b ≡ is_escaped b
unfolding should_percent_encode
byte_is_escaped b = ⊎_elim
    (λ small. let ascii : nat_lt b 128 ≡ true = grind (arith, nat_tests) in
    ap (λ test. not test || contains NAME b) ascii ∙ in_ascii b small)
    (λ large. let past : nat_lt b 128 ≡ false = grind (arith, nat_tests) in
    let no_control : nat_lt b 32 ≡ false = grind (arith, nat_tests) in
    let after_tilde : nat_lt 126 b ≡ true = grind (arith, nat_tests) in
    rw (past, no_control, after_tilde) refl)
    (cases_lt b 128)

pub name_is_escaped : (name : List ℕ) → percent_encode NAME name ≡ flat_map escaped_byte name
unfolding percent_encode
name_is_escaped name =
    ap (λ (f : ℕ → List ℕ). flat_map f name) (λ i b. if byte_is_escaped b i then percent_encode_byte b else b ∷ [])
