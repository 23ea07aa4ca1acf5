-- The text of a bundle made by number is UTF-8, and what its modules' bytes can't be read as.
use Rattle.std.proofs.Common.{refl, ℕ, zero, suc, ◌<◌, ◌≤◌, ◌^◌, ◌==◌, not, ◌&&◌, ◌++◌, decimal, arith}
use Rattle.std.specs.Prelude.{codes, nat_lt}
use Rattle.std.specs.Str.{IsUtf8, IsAscii}
use Rattle.std.proofs.lemmas.Bool.{and_parts, ltb-true}
use Rattle.std.proofs.lemmas.Str.{IsUtf8-append, IsUtf8-nil, IsUtf8-from_ascii}
use Rattle.json.specs.Print.{quoted}
use Rattle.json.proofs.Printed.Utf8.{IsUtf8-are_ascii, IsUtf8-quoted}
use Rattle.made_bundle.specs.Made.{module_text, module_front, specifier_json, text_json, module_json, comma, modules_upto, made_text}
use Rattle.made_laws.proofs.Lines.{each_of}
use Rattle.made_laws.proofs.Bytes.{IsClean, each_weaker, clean_module}
use Rattle.made_laws.proofs.Values.{ascii_of}

low_of : (b : ℕ) → IsClean b → b < 128
low_of b h =
    let a = and_parts (not (b == 39)) (not (b == 92) && (nat_lt 0 b && nat_lt b 128)) h in
    let c = and_parts (not (b == 92)) (nat_lt 0 b && nat_lt b 128) a.1 in
    ltb-true b 128 (and_parts (nat_lt 0 b) (nat_lt b 128) c.1).1

pub module_ascii : (count i : ℕ) → i < count → count < 2 ^ 62 → IsAscii (module_text count i)
module_ascii count i below few =
    ascii_of (module_text count i)
    (each_weaker IsClean (λ b. b < 128) low_of (module_text count i) (clean_module count i below few))

number_utf8 : (n : ℕ) → n < 2 ^ 64 → IsUtf8 (decimal n)
number_utf8 n l =
    IsUtf8-from_ascii (decimal n) (ascii_of (decimal n) (each_of (λ b. b < 128) (λ m l. omega (arith, l)) n l))

module_utf8 : (count i : ℕ) → i < count → count < 2 ^ 62 → IsUtf8 (module_json count i)
unfolding module_front specifier_json text_json module_json
module_utf8 count i below few =
    let text = module_text count i in
    let utf8 = IsUtf8-quoted text (IsUtf8-from_ascii text (module_ascii count i below few)) in
    IsUtf8-append (codes "{\"specifier\":\"file:///m/" ++ decimal i ++ codes ".ts\"")
    (codes ",\"text\":" ++ quoted text ++ codes "}")
    (IsUtf8-append (codes "{\"specifier\":\"file:///m/" ++ decimal i) (codes ".ts\"")
    (IsUtf8-append (codes "{\"specifier\":\"file:///m/") (decimal i)
    (IsUtf8-are_ascii (codes "{\"specifier\":\"file:///m/") refl)
    (number_utf8 i (omega (arith, below, few)))) (IsUtf8-are_ascii (codes ".ts\"") refl))
    (IsUtf8-append (codes ",\"text\":" ++ quoted text) (codes "}")
    (IsUtf8-append (codes ",\"text\":") (quoted text) (IsUtf8-are_ascii (codes ",\"text\":") refl) utf8)
    (IsUtf8-are_ascii (codes "}") refl))

comma_utf8 : (i : ℕ) → IsUtf8 (comma i)
comma_utf8 zero = IsUtf8-nil
comma_utf8 (suc i) = IsUtf8-are_ascii (codes ",") refl

modules_utf8 : (count k : ℕ) → k ≤ count → count < 2 ^ 62 → IsUtf8 (modules_upto count k)
modules_utf8 count zero le few = IsUtf8-nil
modules_utf8 count (suc k) le few =
    IsUtf8-append (modules_upto count k) (comma k ++ module_json count k)
    (modules_utf8 count k (omega (arith, le)) few)
    (IsUtf8-append (comma k) (module_json count k) (comma_utf8 k) (module_utf8 count k (omega (arith, le)) few))

pub made_utf8 : (count : ℕ) → count < 2 ^ 62 → IsUtf8 (made_text count)
unfolding made_text
made_utf8 count few =
    let a = codes "{\"limit\":" in
    let n = decimal count in
    let c = codes ",\"modules\":[" in
    let d = modules_upto count count in
    let e = codes "],\"roots\":[\"file:///m/0.ts\"]}\n" in
    IsUtf8-append (a ++ n ++ c ++ d) e
    (IsUtf8-append (a ++ n ++ c) d
    (IsUtf8-append (a ++ n) c
    (IsUtf8-append a n (IsUtf8-are_ascii a refl) (number_utf8 count (omega (arith, few))))
    (IsUtf8-are_ascii c refl)) (modules_utf8 count count (omega arith) few)) (IsUtf8-are_ascii e refl)
