-- Numbers (ECMA-262, "Numeric Literals"), and what stands behind the one at the front of a text.
use Rattle.std.specs.Prelude.{◌≡◌, ℕ, ◌+◌, ◌-◌, Bool, true, false, not, ◌&&◌, ◌||◌, ◌==◌, List, [], ◌∷◌, ◌++◌, length, Option, Some, None, if◌then◌else◌, ◌⊎◌}
use Rattle.std.specs.List.{AllByRecursion}
use Rattle.std.specs.Char.{is_ascii_digit, is_ascii_hexdigit}
use Rattle.es_literal.specs.declared.spelling.number.Radix.{Radix}
use Rattle.es_literal.specs.declared.spelling.number.Radix.TheVariants.{Binary, Octal, Decimal, Hexadecimal}
use Rattle.es_literal.specs.declared.spelling.number.NumberEnd.{NumberEnd}
use Rattle.es_literal.specs.spelling.Units.{concat, AreUnits, units_rest}

-- ---- digits
unfoldable pub is_digit : Radix → ℕ → Bool
is_digit Binary b = b == 48 || b == 49
is_digit Octal b = is_ascii_digit b && not (b == 56 || b == 57)
is_digit Decimal b = is_ascii_digit b
is_digit Hexadecimal b = is_ascii_hexdigit b

-- the radix that a letter behind `0` stands for
unfoldable pub radix_of : ℕ → Option Radix
radix_of b =
    if b == 120 || b == 88 then Some Hexadecimal
    else (if b == 111 || b == 79 then Some Octal
    else (if b == 98 || b == 66 then Some Binary
    else None))

-- a digit stands here
unfoldable pub begins_digit : Radix → List ℕ → Bool
begins_digit radix [] = false
begins_digit radix (b ∷ rest) = is_digit radix b

-- a digit, or `_` and a digit
unfoldable pub digit_unit : Radix → List ℕ → ℕ
digit_unit radix [] = 0
digit_unit radix (b ∷ rest) =
    if is_digit radix b then 1 else (if b == 95 && begins_digit radix rest then 2 else 0)

-- more digits, each behind one `_` or none
pub record IsRun (radix : Radix) (s : List ℕ) : Type 0 where
  pub units : List (List ℕ)
  pub each : AreUnits (digit_unit radix) units []
  pub whole : s ≡ concat units

-- digits
pub record IsDigits (radix : Radix) (s : List ℕ) : Type 0 where
  pub first : ℕ
  pub more : List ℕ
  pub digit : is_digit radix first ≡ true
  pub run : IsRun radix more
  pub whole : s ≡ first ∷ more

-- digits, or nothing
abbrev pub ArePlaces : List ℕ → Type 0
ArePlaces s = s ≡ [] ⊎ IsDigits Decimal s

-- a point and places, or nothing
abbrev pub IsFraction : List ℕ → Type 0
IsFraction [] = Unit {0}
IsFraction (b ∷ s) = (b ≡ 46) × ArePlaces s

-- a sign and digits, or digits
abbrev pub IsSigned : List ℕ → Type 0
IsSigned [] = ⊥
IsSigned (b ∷ s) = ((b == 43 || b == 45) ≡ true) × IsDigits Decimal s ⊎ IsDigits Decimal (b ∷ s)

-- `e` and those, or nothing
abbrev pub IsExponent : List ℕ → Type 0
IsExponent [] = Unit {0}
IsExponent (b ∷ s) = ((b == 101 || b == 69) ≡ true) × IsSigned s

-- `0`, or digits that begin with another one
abbrev pub IsWhole : List ℕ → Type 0
IsWhole s = s ≡ 48 ∷ [] ⊎ ((digits : IsDigits Decimal s) × ((digits.first == 48) ≡ false))

-- the `n` of a BigInt
abbrev pub big_end : Bool → List ℕ
big_end true = 110 ∷ []
big_end false = []

-- a number, or a BigInt
pub data IsNumber (big : Bool) (s : List ℕ) : Type 0 where
  -- in hexadecimal, octal or binary digits
  in_radix : (x : ℕ) (r : Radix) (digits : List ℕ) → radix_of x ≡ Some r → IsDigits r digits
      → s ≡ 48 ∷ x ∷ (digits ++ big_end big) → IsNumber big s
  -- `0` and decimal digits alone
  zeros : (d : ℕ) (digits : List ℕ) → AllByRecursion (λ b. is_digit Decimal b ≡ true) (d ∷ digits)
      → s ≡ 48 ∷ d ∷ digits → big ≡ false → IsNumber big s
  -- a BigInt in decimal digits
  integer : (whole : List ℕ) → IsWhole whole → s ≡ whole ++ 110 ∷ [] → big ≡ true → IsNumber big s
  decimal : (whole fraction exponent : List ℕ) → IsWhole whole → IsFraction fraction → IsExponent exponent
      → s ≡ whole ++ (fraction ++ exponent) → big ≡ false → IsNumber big s
  point : (digits exponent : List ℕ) → IsDigits Decimal digits → IsExponent exponent
      → s ≡ 46 ∷ (digits ++ exponent) → big ≡ false → IsNumber big s

-- ---- what stands behind each part
unfoldable pub digits_rest : Radix → List ℕ → List ℕ
digits_rest radix text = units_rest (digit_unit radix) 0 text

-- behind decimal digits, or at once
unfoldable pub places_rest : List ℕ → List ℕ
places_rest [] = []
places_rest (d ∷ rest) = if is_digit Decimal d then digits_rest Decimal rest else d ∷ rest

-- behind a point and places, or at once
unfoldable pub fraction_rest : List ℕ → List ℕ
fraction_rest [] = []
fraction_rest (b ∷ rest) = if b == 46 then places_rest rest else b ∷ rest

-- behind the digits that follow `e` and a sign in `text`, or `text`
unfoldable pub power_rest : List ℕ → List ℕ → List ℕ
power_rest text [] = text
power_rest text (d ∷ rest) = if is_digit Decimal d then digits_rest Decimal rest else text

unfoldable pub signed_rest : List ℕ → List ℕ → List ℕ
signed_rest text [] = text
signed_rest text (b ∷ rest) = if b == 43 || b == 45 then power_rest text rest else power_rest text (b ∷ rest)

-- behind an exponent, or at once
unfoldable pub exponent_rest : List ℕ → List ℕ
exponent_rest [] = []
exponent_rest (b ∷ rest) = if b == 101 || b == 69 then signed_rest (b ∷ rest) rest else b ∷ rest

-- behind the `n` of a BigInt, and whether one stands there
unfoldable pub after_digits : List ℕ → Bool × List ℕ
after_digits [] = (false, [])
after_digits (b ∷ rest) = if b == 110 then (true, rest) else (false, b ∷ rest)

-- the same behind the whole part of a decimal number, which may go on
unfoldable pub after_whole : List ℕ → Bool × List ℕ
after_whole [] = (false, [])
after_whole (b ∷ rest) =
    if b == 110 then (true, rest) else (false, exponent_rest (fraction_rest (b ∷ rest)))

-- behind the digits of a radix, where they stand in `rest`, or behind the whole part `0`
unfoldable pub after_letter : Option Radix → List ℕ → List ℕ → Bool × List ℕ
after_letter None text rest = after_whole text
after_letter (Some radix) text [] = after_whole text
after_letter (Some radix) text (d ∷ rest) =
    if is_digit radix d then after_digits (digits_rest radix rest) else after_whole text

unfoldable pub decimals_rest : List ℕ → List ℕ
decimals_rest [] = []
decimals_rest (b ∷ rest) = if is_digit Decimal b then decimals_rest rest else b ∷ rest

-- behind a number that begins with `0`
unfoldable pub after_zero : List ℕ → Bool × List ℕ
after_zero [] = (false, [])
after_zero (b ∷ rest) =
    if is_digit Decimal b then (false, decimals_rest rest) else after_letter (radix_of b) (b ∷ rest) rest

-- behind a number that begins with this digit or with a point
unfoldable pub after_number : ℕ → List ℕ → Bool × List ℕ
after_number b rest =
    if b == 46 then (false, exponent_rest (places_rest rest))
    else (if b == 48 then after_zero rest else after_whole (digits_rest Decimal rest))

-- the number at the front of a text that stands at `at`: whether it is a BigInt, and its end
unfoldable pub number_end : ℕ → List ℕ → NumberEnd
number_end at [] = record { big = false; end = at }
number_end at (b ∷ rest) =
    let after = after_number b rest in
    record { big = after.0; end = at + (length (b ∷ rest) - length after.1) }

-- a number begins with a digit, or with a point and a digit
unfoldable pub begins_number : List ℕ → Bool
begins_number [] = false
begins_number (b ∷ rest) = is_digit Decimal b || b == 46 && begins_digit Decimal rest
