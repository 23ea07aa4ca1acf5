-- The text of a bundle made by number is that of its value.
use Rattle.std.proofs.Common.{◌≡◌, ◌∙◌, refl, sym, ap, ℕ, zero, suc, ◌+◌, ◌<◌, ◌^◌, Bool, true, false, List, [], ◌∷◌, ◌++◌, append_assoc, append-nil, decimal, arith}
use Rattle.std.specs.Prelude.{codes}
use Rattle.std.proofs.lemmas.List.Concat.{flat_map-append}
use Rattle.json.specs.Print.{escape_byte, quoted}
use Rattle.serde_json.specs.Written.{compact_text, items_text, comma_if}
use Rattle.made_bundle.specs.Made.{module_text, module_front, specifier_json, text_json, module_json, comma, modules_upto, made_text}
use Rattle.made_laws.specs.Value.{specifier_text, module_value, modules_from, made_value}
use Rattle.made_laws.proofs.Digits.{escape_decimal}

-- ---- a module

quoted_specifier : (i : ℕ) → i < 2 ^ 64
    → quoted (specifier_text i) ≡ codes "\"file:///m/" ++ (decimal i ++ codes ".ts\"")
unfolding escape_byte
quoted_specifier i l =
    ap (λ (x : List ℕ). 34 ∷ (x ++ 34 ∷ []))
    (flat_map-append escape_byte (codes "file:///m/") (decimal i ++ codes ".ts")
    ∙ ap (λ (x : List ℕ). codes "file:///m/" ++ x)
    (flat_map-append escape_byte (decimal i) (codes ".ts")
    ∙ ap (λ (x : List ℕ). x ++ codes ".ts") (escape_decimal i l)))
    ∙ ap (λ (x : List ℕ). codes "\"file:///m/" ++ x) (append_assoc (decimal i) (codes ".ts") (34 ∷ []))

pub module_compact : (count i : ℕ) → i < 2 ^ 64 → compact_text (module_value count i) ≡ module_json count i
unfolding escape_byte module_front specifier_json text_json module_json
module_compact count i l =
    let rest = codes ",\"text\":" ++ (quoted (module_text count i) ++ codes "}") in
    ap (λ (x : List ℕ). codes "{\"specifier\":" ++ (x ++ rest)) (quoted_specifier i l)
    ∙ sym (append_assoc (codes "{\"specifier\":\"file:///m/") (decimal i ++ codes ".ts\"") rest)

-- ---- the modules

abbrev is_later : ℕ → Bool
is_later zero = false
is_later (suc i) = true

abbrev joined : ℕ → ℕ → ℕ → List ℕ
joined count i zero = []
joined count i (suc k) = (comma i ++ module_json count i) ++ joined count (suc i) k

comma_is : (i : ℕ) → comma_if (is_later i) ≡ comma i
comma_is zero = refl
comma_is (suc i) = refl

items_joined : (count i k : ℕ) → i + k < 2 ^ 64
    → items_text (is_later i) (modules_from count i k) ≡ joined count i k ++ 93 ∷ []
items_joined count i zero l = refl
items_joined count i (suc k) l =
    ap (λ (x : List ℕ). x ++ (compact_text (module_value count i) ++ items_text true (modules_from count (suc i) k)))
    (comma_is i)
    ∙ ap (λ (x : List ℕ). comma i ++ (x ++ items_text true (modules_from count (suc i) k)))
    (module_compact count i (omega (arith, l)))
    ∙ ap (λ (x : List ℕ). comma i ++ (module_json count i ++ x)) (items_joined count (suc i) k (omega (arith, l)))
    ∙ sym (append_assoc (comma i) (module_json count i) (joined count (suc i) k ++ 93 ∷ []))
    ∙ sym (append_assoc (comma i ++ module_json count i) (joined count (suc i) k) (93 ∷ []))

upto_joined : (count i k : ℕ) → modules_upto count i ++ joined count i k ≡ modules_upto count (i + k)
upto_joined count i zero =
    let same : i ≡ i + 0 = omega arith in append-nil (modules_upto count i) ∙ ap (modules_upto count) same
upto_joined count i (suc k) =
    let same : suc i + k ≡ i + suc k = omega arith in
    sym (append_assoc (modules_upto count i) (comma i ++ module_json count i) (joined count (suc i) k))
    ∙ upto_joined count (suc i) k ∙ ap (modules_upto count) same

pub modules_compact : (count : ℕ) → count < 2 ^ 64
    → items_text false (modules_from count 0 count) ≡ modules_upto count count ++ 93 ∷ []
modules_compact count l =
    let same : 0 + count ≡ count = omega arith in
    items_joined count 0 count (omega (arith, l))
    ∙ ap (λ (x : List ℕ). x ++ 93 ∷ []) (upto_joined count 0 count ∙ ap (modules_upto count) same)

-- ---- the whole

abbrev end : List ℕ
end = codes ",\"roots\":[\"file:///m/0.ts\"]}"

made_a : (count : ℕ) → made_text count
    ≡ codes "{\"limit\":"
    ++ (decimal count ++
    (codes ",\"modules\":[" ++ (modules_upto count count ++ codes "],\"roots\":[\"file:///m/0.ts\"]}\n")))
unfolding made_text
made_a count =
    let n = decimal count in
    let c = codes ",\"modules\":[" in
    let d = modules_upto count count in
    let e = codes "],\"roots\":[\"file:///m/0.ts\"]}\n" in
    ap (λ (x : List ℕ). codes "{\"limit\":" ++ x) (append_assoc (n ++ c) d e ∙ append_assoc n c (d ++ e))

made_b : (count : ℕ) → codes "],\"roots\":[\"file:///m/0.ts\"]}\n" ≡ 93 ∷ (end ++ 10 ∷ [])
made_b count = refl

made_is : (count : ℕ) → made_text count
    ≡ codes "{\"limit\":"
    ++ (decimal count ++ (codes ",\"modules\":[" ++ (modules_upto count count ++ (93 ∷ (end ++ 10 ∷ [])))))
made_is count =
    made_a count
    ∙ ap (λ (x : List ℕ). codes "{\"limit\":"
    ++ (decimal count ++ (codes ",\"modules\":[" ++ (modules_upto count count ++ x)))) (made_b count)

compact_is : (count : ℕ) → compact_text (made_value count)
    ≡ codes "{\"limit\":"
    ++ (decimal count ++ (codes ",\"modules\":[" ++ (items_text false (modules_from count 0 count) ++ end)))
unfolding escape_byte
compact_is count = refl

pub made_compact : (count : ℕ) → count < 2 ^ 64 → made_text count ≡ compact_text (made_value count) ++ 10 ∷ []
made_compact count l =
    let items = items_text false (modules_from count 0 count) in
    let behind = codes ",\"modules\":[" ++ (items ++ end) in
    made_is count
    ∙ sym (ap (λ (x : List ℕ). x ++ 10 ∷ []) (compact_is count)
    ∙ ap (λ (x : List ℕ). codes "{\"limit\":" ++ x)
    (append_assoc (decimal count) behind (10 ∷ [])
    ∙ ap (λ (x : List ℕ). decimal count ++ (codes ",\"modules\":[" ++ x))
    (append_assoc items end (10 ∷ [])
    ∙ ap (λ (x : List ℕ). x ++ (end ++ 10 ∷ [])) (modules_compact count l)
    ∙ append_assoc (modules_upto count count) (93 ∷ []) (end ++ 10 ∷ []))))
