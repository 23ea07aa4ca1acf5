-- The laws of `data:` URLs that other crates name.
use Rattle.std.proofs.Common.{◌≡◌, ◌≢◌, ◌∙◌, sym, List, ℕ, ◌%◌, refl, ap, length, ◌↔◌}
use Rattle.std.specs.Prelude.{Some, Result, Ok, Err}
use Rattle.std.specs.Result.{result_ok}
use Rattle.base64.specs.declared.decode.DecodeError.{DecodeError}
use Rattle.base64.specs.GeneralPurpose.{encode_of, decode_of, IsBytes, IsConsistent, IsStrict}
use Rattle.base64.specs.Engines.{standard_no_pad}
use Rattle.base64.proofs.EngineFacts.{decode_of_iff, decode_of-encode_of}
use Rattle.std.proofs.lemmas.List.{append-nil}
use Rattle.data_specifier.specs.Blanks.{without_blanks}
use Rattle.data_specifier.specs.Forgiving.{without_padding, alphabet, masked, digits_of, forgiving_base64}
use Rattle.data_specifier.proofs.ForgivingLemmas.{Pair, values_in, digits_in, AreDigits, bytes_of, masked-encodes, bytes_of-small, each_below}

is_ok_of : (r : Result (List ℕ) DecodeError) (b : List ℕ) → result_ok r ≡ Some b → r ≡ Ok b
is_ok_of (Ok x) b e = cc
is_ok_of (Err e) b none = cc

-- a text is forgiving base64 of bytes just where its digits are their base64 without padding
pub forgiving_base64_iff : (text bytes : List ℕ) → IsBytes (digits_of text) → IsBytes bytes
    → (forgiving_base64 text ≡ Some bytes) ↔ (digits_of text ≡ encode_of standard_no_pad bytes)
unfolding forgiving_base64
forgiving_base64_iff text bytes small small_too =
    let strict : IsStrict standard_no_pad = (refl, refl) in
    let both = decode_of_iff standard_no_pad (digits_of text) bytes strict small small_too in
    ((λ e. both.0 (is_ok_of _ bytes e)), (λ e. ap (λ (r : Result (List ℕ) DecodeError). result_ok r) (both.1 e)))

-- a text whose cleaned digits have these values, and are not one more than whole groups, is forgiving base64 of the bytes of
-- the values (Infra Standard, "forgiving-base64 decode")
pub forgiving_base64_values : (text : List ℕ) (pairs : List Pair)
    → without_padding (without_blanks text) ≡ digits_in pairs
    → AreDigits alphabet pairs → length (digits_in pairs) % 4 ≢ 1
    → forgiving_base64 text ≡ Some (bytes_of (values_in pairs))
unfolding forgiving_base64 digits_of masked
forgiving_base64_values text pairs cleaned are rest =
    let bytes : List ℕ = bytes_of (values_in pairs) in
    let consistent : IsConsistent standard_no_pad = refl in
    let decoded = decode_of-encode_of standard_no_pad bytes consistent
    (each_below bytes (bytes_of-small alphabet refl pairs are)) in
    let whole : digits_of text ≡ encode_of standard_no_pad bytes
    = ap (λ ds. masked ds) cleaned ∙ masked-encodes alphabet refl pairs are rest ∙ sym (append-nil _) in
    ap (λ ds. result_ok (decode_of standard_no_pad ds)) whole
    ∙ ap (λ (r : Result (List ℕ) DecodeError). result_ok r) decoded
