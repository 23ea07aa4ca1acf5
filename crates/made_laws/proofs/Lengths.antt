-- How long a bundle made by number is.
use Rattle.std.proofs.Common.{◌≡◌, refl, sym, subst, ℕ, zero, suc, ◌+◌, ◌*◌, ◌<◌, ◌≤◌, ◌==◌, Bool, true, false, List, [], ◌∷◌, ◌++◌, length, decimal, arith, length-append}
use Rattle.std.specs.Prelude.{codes, nat_lt, if◌then◌else◌}
use Rattle.std.proofs.lemmas.Bool.{ltb-true}
use Rattle.std.proofs.lemmas.List.Concat.{flat_map-append}
use Rattle.std.proofs.lemmas.Fmt.{length-decimal-le}
use Rattle.json.specs.Print.{escape_byte, escape, quoted}
use Rattle.made_bundle.specs.Made.{child_line, back_line, declared, assigned, value_line, module_text, module_front, specifier_json, text_json, module_json, comma, modules_upto, made_text}
use Rattle.made_laws.proofs.Digits.{escape_decimal}

digits_few : (n : ℕ) → n < 100000 → length (decimal n) ≤ 5
digits_few n l = length-decimal-le 5 n (omega arith) (omega (arith, l)) (omega (arith, l))

-- the parts of an escaped text
longer : (xs ys : List ℕ) (m n : ℕ) → length (escape xs) ≤ m → length (escape ys) ≤ n
    → length (escape (xs ++ ys)) ≤ m + n
longer xs ys m n h k =
    subst (λ (l : List ℕ). length l ≤ m + n) (sym (flat_map-append escape_byte xs ys))
    (omega (arith, h, k, length-append (escape xs) (escape ys)))

number_escaped : (n : ℕ) → n < 100000 → length (escape (decimal n)) ≤ 5
number_escaped n l =
    subst (λ (x : List ℕ). length x ≤ 5) (sym (escape_decimal n (omega (arith, l)))) (digits_few n l)

child_escaped : (count c : ℕ) → count ≤ 100000 → length (escape (child_line count c)) ≤ 24
unfolding child_line escape_byte
child_escaped count c few = by (nat_lt c count) refl
  where
    by : (b : Bool) → nat_lt c count ≡ b
        → length (escape (if b then codes "import \"./" ++ decimal c ++ codes ".ts\";\n" else [])) ≤ 24
    by true is =
        longer (codes "import \"./" ++ decimal c) (codes ".ts\";\n") 16 8
        (longer (codes "import \"./") (decimal c) 11 5 (omega arith)
        (number_escaped c (let below = ltb-true c count is in omega (arith, below, few)))) (omega arith)
    by false is = omega arith

back_escaped : (i : ℕ) → length (escape (back_line i)) ≤ 21
unfolding back_line escape_byte
back_escaped i = by (i == 0)
  where
    by : (b : Bool) → length (escape (if b then [] else codes "import(\"./0.ts\");\n")) ≤ 21
    by true = omega arith
    by false = omega arith

value_escaped : (i : ℕ) → i < 100000 → length (escape (value_line i)) ≤ 30
unfolding value_line declared assigned escape_byte
value_escaped i l =
    longer (codes "export const v" ++ decimal i) (codes " = " ++ decimal i ++ codes ";\n") 19 11
    (longer (codes "export const v") (decimal i) 14 5 (omega arith) (number_escaped i l))
    (longer (codes " = " ++ decimal i) (codes ";\n") 8 3
    (longer (codes " = ") (decimal i) 3 5 (omega arith) (number_escaped i l)) (omega arith))

module_escaped : (count i : ℕ) → i < count → count ≤ 100000 → length (escape (module_text count i)) ≤ 99
unfolding module_text
module_escaped count i below few =
    let a = child_line count (2 * i + 1) in
    let b = child_line count (2 * i + 2) in
    let c = back_line i in
    longer (a ++ b ++ c) (value_line i) 69 30
    (longer (a ++ b) c 48 21
    (longer a b 24 24 (child_escaped count (2 * i + 1) few) (child_escaped count (2 * i + 2) few))
    (back_escaped i)) (value_escaped i (omega (arith, below, few)))

module_length : (count i : ℕ) → i < count → count ≤ 100000 → length (module_json count i) ≤ 144
unfolding module_front specifier_json text_json module_json
module_length count i below few =
    let e = module_escaped count i below few in
    let d = digits_few i (omega (arith, below, few)) in
    let text = module_text count i in
    omega (
      arith,
      e,
      d,
      length-append (codes "{\"specifier\":\"file:///m/" ++ decimal i ++ codes ".ts\"")
          (codes ",\"text\":" ++ quoted text ++ codes "}"),
      length-append (codes "{\"specifier\":\"file:///m/" ++ decimal i) (codes ".ts\""),
      length-append (codes "{\"specifier\":\"file:///m/") (decimal i),
      length-append (codes ",\"text\":" ++ quoted text) (codes "}"),
      length-append (codes ",\"text\":") (quoted text),
      length-append (escape text) (34 ∷ []),
    )

comma_length : (i : ℕ) → length (comma i) ≤ 1
comma_length zero = omega arith
comma_length (suc i) = omega arith

modules_length : (count k : ℕ) → k ≤ count → count ≤ 100000 → length (modules_upto count k) ≤ 145 * k
modules_length count zero le few = omega arith
modules_length count (suc k) le few =
    let before = modules_length count k (omega (arith, le)) few in
    let this = module_length count k (omega (arith, le)) few in
    omega (
      arith,
      before,
      this,
      comma_length k,
      length-append (modules_upto count k) (comma k ++ module_json count k),
      length-append (comma k) (module_json count k),
    )

pub made_length : (count : ℕ) → count ≤ 100000 → length (made_text count) ≤ 16777216
unfolding made_text
made_length count few =
    let modules = modules_length count count (omega arith) few in
    let number : length (decimal count) ≤ 6 =
    length-decimal-le 6 count (omega arith) (omega (arith, few)) (omega (arith, few)) in
    let a = codes "{\"limit\":" in
    let n = decimal count in
    let c = codes ",\"modules\":[" in
    let d = modules_upto count count in
    let e = codes "],\"roots\":[\"file:///m/0.ts\"]}\n" in
    omega (
      arith,
      few,
      modules,
      number,
      length-append (a ++ n ++ c ++ d) e,
      length-append (a ++ n ++ c) d,
      length-append (a ++ n) c,
      length-append a n,
    )
