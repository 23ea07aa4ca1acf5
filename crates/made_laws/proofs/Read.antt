-- A bundle made by number is read as its value.
use Rattle.std.proofs.Common.{◌≡◌, ◌∙◌, refl, sym, ap, ℕ, zero, suc, ◌<◌, ◌≤◌, ◌^◌, max, List, [], ◌∷◌, ◌++◌, Some, append-nil, arith}
use Rattle.std.specs.Prelude.{Option}
use Rattle.std.specs.Option.{option_map, option_and_then}
use Rattle.json.specs.Token.{Token}
use Rattle.json.specs.Lex.{tokens}
use Rattle.json.specs.Json as json
use Rattle.json.specs.Tree.{json_tokens, HasNumbers, ItemsHaveNumbers}
use Rattle.json.specs.Tree as tree
use Rattle.json.proofs.Printed.Trees.{ArePrintable-json_tokens, value-json_tokens}
use Rattle.json.proofs.Printed.Decimals.{IsNumber-decimal}
use Rattle.serde_json.specs.Data.{Data, item}
use Rattle.serde_json.specs.Read.{read, max_depth, of_json, of_items}
use Rattle.serde_json.specs.Written.{outline, items_outline}
use Rattle.serde_json.proofs.Texts.{print-outline}
use Rattle.serde_json.proofs.Numbers.{number_of-decimal}
use Rattle.made_bundle.specs.Made.{made_text}
use Rattle.made_laws.specs.Value.{module_value, modules_from, made_value}
use Rattle.made_laws.proofs.Text.{made_compact}
use Rattle.made_laws.proofs.Newline.{tokens_newline}

abbrev whole : Option (json.Json × List Token) → Option Data
whole o = option_and_then of_json (option_and_then (λ p. json.if_last p.0 p.1) o)

items_numbers : (count i k : ℕ) → ItemsHaveNumbers (items_outline (modules_from count i k))
items_numbers count i zero = tt
items_numbers count i (suc k) = ((tt, (tt, tt)), items_numbers count (suc i) k)

numbers : (count : ℕ) → count < 2 ^ 64 → HasNumbers (outline (made_value count))
numbers count l = (IsNumber-decimal count l, (items_numbers count 0 count, ((tt, tt), tt)))

module_read : (count i : ℕ) → of_json (outline (module_value count i)) ≡ Some (module_value count i)
module_read count i = refl

items_read : (count i k : ℕ) → of_items (items_outline (modules_from count i k)) ≡ Some (modules_from count i k)
items_read count i zero = refl
items_read count i (suc k) = ap (option_map (item (module_value count i))) (items_read count (suc i) k)

value_read : (count : ℕ) → count < 2 ^ 64 → of_json (outline (made_value count)) ≡ Some (made_value count)
value_read count l = rw (number_of-decimal count l) (rw (items_read count 0 count) refl)

items_deep : (count i k : ℕ) → tree.items_depth (items_outline (modules_from count i (suc k))) ≡ 1
items_deep count i zero = refl
items_deep count i (suc k) = ap (max 1) (items_deep count (suc i) k)

shallow : (count : ℕ) → tree.depth (outline (made_value count)) ≤ max_depth
shallow zero = omega arith
shallow (suc count) = rw (items_deep (suc count) 0 count) (omega arith)

pub made_read : (count : ℕ) → count < 2 ^ 64 → read (made_text count) ≡ Some (made_value count)
made_read count l =
    let j = outline (made_value count) in
    let text : tokens (made_text count) ≡ json_tokens j
    = ap tokens (made_compact count l
    ∙ ap (λ (x : List ℕ). x ++ 10 ∷ []) (sym (print-outline (made_value count))))
    ∙ tokens_newline (json_tokens j) (ArePrintable-json_tokens j (numbers count l)) in
    ap whole (ap (json.value max_depth) (text ∙ sym (append-nil (json_tokens j)))
    ∙ value-json_tokens j max_depth [] (shallow count)) ∙ value_read count l
