-- Tests of the front of a specifier.
use Rattle.std.specs.Prelude.{ℕ, ◌+◌, nat_eq, nat_lt, Bool, ◌||◌, ◌&&◌, ◌==◌, List, drop, slice_index, codes, bytes_eq}
use Rattle.std.specs.List.{starts_with, prefix_len}
use Rattle.std.specs.Char.{is_ascii_alphabetic, is_ascii_alphanumeric}

-- the text begins with this one
abbrev pub begins : List ℕ → List ℕ → Bool
begins text front = starts_with nat_eq text front

-- it begins with `/`, `./` or `../`
abbrev pub has_relative_prefix : List ℕ → Bool
has_relative_prefix text = begins text (codes "/") || begins text (codes "./") || begins text (codes "../")

-- it is `.` or `..`, or begins with `./` or `../`
abbrev pub is_relative_specifier : List ℕ → Bool
is_relative_specifier text =
    bytes_eq text (codes ".") || bytes_eq text (codes "..") || begins text (codes "./")
    || begins text (codes "../")

-- a letter, a digit, `+`, `-` or `.`
abbrev pub is_scheme_byte : ℕ → Bool
is_scheme_byte b = is_ascii_alphanumeric b || b == 43 || b == 45 || b == 46

-- how many such bytes follow the first byte
abbrev pub scheme_rest : List ℕ → ℕ
scheme_rest text = prefix_len is_scheme_byte (drop 1 text)

-- a letter, one such byte at least, and then `:`: a drive letter is no scheme
abbrev pub has_uri_scheme : List ℕ → Bool
has_uri_scheme text =
    is_ascii_alphabetic (slice_index text 0) && nat_lt 0 (scheme_rest text)
    && slice_index text (scheme_rest text + 1) == 58
