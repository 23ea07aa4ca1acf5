-- Forgiving base64 (Infra Standard, "forgiving-base64 decode"), over base64 without padding as RFC 4648, section 4,
-- and the `base64` crate's strict engine have it.
use Rattle.std.specs.Prelude.{ℕ, nat_eq, ◌-◌, ◌*◌, ◌/◌, ◌%◌, ◌==◌, List, codes, length, take, position, slice_index, slice_set, Option, Some, None, if◌then◌else◌}
use Rattle.std.specs.List.{ends_with}
use Rattle.std.specs.Result.{result_ok}
use Rattle.base64.specs.GeneralPurpose.{decode_of}
use Rattle.base64.specs.Engines.{standard_no_pad}
use Rattle.data_specifier.specs.Blanks.{without_blanks}

-- less two `=` at the end, or less one
abbrev pub less_equals : List ℕ → List ℕ
less_equals digits =
    if ends_with nat_eq digits (codes "==") then take (length digits - 2) digits
    else if ends_with nat_eq digits (codes "=") then take (length digits - 1) digits
    else digits

-- padding may stand at the end where the length is a multiple of four
unfoldable pub without_padding : List ℕ → List ℕ
without_padding digits = if length digits % 4 == 0 then less_equals digits else digits

-- the digits of base64, each at its value
abbrev pub alphabet : List ℕ
alphabet = codes "ABCDEFGHIJKLMNOPQRSTUVWXYZabcdefghijklmnopqrstuvwxyz0123456789+/"

-- one more than the greatest number in the spare bits of the last of so many digits: two digits make one byte and have
-- four spare bits, three make two bytes and have two
abbrev pub spare : ℕ → ℕ
spare n = if n % 4 == 2 then 16 else if n % 4 == 3 then 4 else 1

-- the digit of this value with its spare bits 0; without a value it stays
abbrev pub masked_at : List ℕ → ℕ → ℕ → Option ℕ → ℕ
masked_at digits step digit (Some value) = slice_index digits (value / step * step)
masked_at digits step digit None = digit

-- a digit with its spare bits 0; what is none of the digits stays
abbrev pub masked_digit : List ℕ → ℕ → ℕ → ℕ
masked_digit digits step digit = masked_at digits step digit (position (λ d. d == digit) digits)

-- the digits, with the spare bits of the last one 0
unfoldable pub masked : List ℕ → List ℕ
masked digits =
    let last = length digits - 1 in
    slice_set digits last (masked_digit alphabet (spare (length digits)) (slice_index digits last))

-- the digits that a text has, ready to be read
unfoldable pub digits_of : List ℕ → List ℕ
digits_of text = masked (without_padding (without_blanks text))

-- the bytes of a text, if it is forgiving base64
unfoldable pub forgiving_base64 : List ℕ → Option (List ℕ)
forgiving_base64 text = result_ok (decode_of standard_no_pad (digits_of text))
