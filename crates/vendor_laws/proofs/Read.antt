-- The text of a plan's bundle is read as its value.
use Rattle.std.proofs.Common.{◌≡◌, ◌∙◌, refl, sym, ap, ℕ, ◌<◌, ◌≤◌, ◌^◌, max, List, [], ◌∷◌, ◌++◌, append-nil, arith, Option, Some, None}
use Rattle.std.specs.Option.{option_map, option_and_then}
use Rattle.json.specs.Token.{Token}
use Rattle.json.specs.Lex.{tokens}
use Rattle.json.specs.Json as json
use Rattle.json.specs.Tree.{json_tokens, HasNumbers, ItemsHaveNumbers}
use Rattle.json.specs.Tree as tree
use Rattle.json.proofs.Printed.Trees.{ArePrintable-json_tokens, value-json_tokens}
use Rattle.json.proofs.Printed.Decimals.{IsNumber-decimal}
use Rattle.serde_json.specs.Data.{Data, Items, no_items, item}
use Rattle.serde_json.specs.Read.{read, max_depth, of_json, of_items}
use Rattle.serde_json.specs.Written.{outline, items_outline}
use Rattle.serde_json.proofs.Texts.{print-outline}
use Rattle.serde_json.proofs.Numbers.{number_of-decimal}
use Rattle.url.specs.Parts.{Parts}
use Rattle.graph_vendor.specs.declared.plan.VendorPlan.{VendorPlan}
use Rattle.vendor_files.specs.declared.file.VendorFile.{VendorFile}
use Rattle.vendor_report.specs.declared.wanted.Wanted.{Wanted}
use Rattle.vendor_report.specs.Plans.{plain_text, plan_text}
use Rattle.vendor_laws.specs.Written.{items_onto, url_value, file_value_by, file_value, external_value, modules_value, roots_value, plan_value}
use Rattle.vendor_laws.proofs.Text.{plan_compact}
use Rattle.made_laws.proofs.Newline.{tokens_newline}

-- ---- a value that is flat is read as itself

record IsFlat (d : Data) : Type 0 where
  numbers : HasNumbers (outline d)
  same : of_json (outline d) ≡ Some d
  deep : tree.depth (outline d) ≤ 1

record AreFlat (ds : Items) : Type 0 where
  numbers : ItemsHaveNumbers (items_outline ds)
  same : of_items (items_outline ds) ≡ Some ds
  deep : tree.items_depth (items_outline ds) ≤ 1

flat_none : AreFlat no_items
flat_none = record { numbers = tt; same = refl; deep = omega arith }

flat_more : (d : Data) (ds : Items) → IsFlat d → AreFlat ds → AreFlat (item d ds)
flat_more d ds one more = record {
  numbers = (one.numbers, more.numbers);
  same = rw one.same (ap (option_map (item d)) more.same);
  deep = max_le (tree.depth (outline d)) (tree.items_depth (items_outline ds)) one.deep more.deep;
}
  where
    max_le : (a b : ℕ) → a ≤ 1 → b ≤ 1 → max a b ≤ 1
    max_le a b x y = omega (arith, x, y)

flat_onto : {X : Type 0} (f : X → Data) → ((x : X) → IsFlat (f x)) → (xs : List X) (rest : Items) → AreFlat rest
    → AreFlat (items_onto f xs rest)
flat_onto {X} f each [] rest h = h
flat_onto {X} f each (x ∷ xs) rest h = flat_more (f x) (items_onto f xs rest) (each x) (flat_onto f each xs rest h)

flat_url : (url : Parts) → IsFlat (url_value url)
flat_url url = record { numbers = tt; same = refl; deep = omega arith }

flat_external : (url : Parts) → IsFlat (external_value url)
flat_external url = record { numbers = (tt, (tt, tt)); same = refl; deep = omega arith }

flat_file : (file : VendorFile) → IsFlat (file_value file)
flat_file file = by (plain_text file)
  where
    by : (text : Option (List ℕ)) → IsFlat (file_value_by file text)
    by (Some text) = record { numbers = (tt, (tt, tt)); same = refl; deep = omega arith }
    by None = record { numbers = (tt, (tt, tt)); same = refl; deep = omega arith }

flat_modules : (plan : VendorPlan) → AreFlat (modules_value plan)
flat_modules plan =
    flat_onto file_value flat_file plan.files (items_onto external_value plan.externals no_items)
    (flat_onto external_value flat_external plan.externals no_items flat_none)

flat_roots : (plan : VendorPlan) → AreFlat (roots_value plan)
flat_roots plan = flat_onto url_value flat_url plan.roots no_items flat_none

-- ---- the whole

abbrev whole : Option (json.Json × List Token) → Option Data
whole o = option_and_then of_json (option_and_then (λ p. json.if_last p.0 p.1) o)

numbers : (wanted : Wanted) (plan : VendorPlan) → wanted.limit < 2 ^ 64 → HasNumbers (outline (plan_value wanted plan))
numbers wanted plan l =
    (tt, (IsNumber-decimal wanted.limit l, ((flat_modules plan).numbers, ((flat_roots plan).numbers, (tt, tt)))))

value_read : (wanted : Wanted) (plan : VendorPlan) → wanted.limit < 2 ^ 64
    → of_json (outline (plan_value wanted plan)) ≡ Some (plan_value wanted plan)
value_read wanted plan l =
    rw (number_of-decimal wanted.limit l) (rw (flat_modules plan).same (rw (flat_roots plan).same refl))

shallow : (wanted : Wanted) (plan : VendorPlan) → tree.depth (outline (plan_value wanted plan)) ≤ max_depth
shallow wanted plan =
    let a = (flat_modules plan).deep in
    let b = (flat_roots plan).deep in
    omega (arith, a, b)

pub plan_read : (wanted : Wanted) (plan : VendorPlan) → wanted.limit < 2 ^ 64
    → read (plan_text wanted plan) ≡ Some (plan_value wanted plan)
plan_read wanted plan l =
    let j = outline (plan_value wanted plan) in
    let text : tokens (plan_text wanted plan) ≡ json_tokens j
    = ap tokens (plan_compact wanted plan
    ∙ ap (λ (x : List ℕ). x ++ 10 ∷ []) (sym (print-outline (plan_value wanted plan))))
    ∙ tokens_newline (json_tokens j) (ArePrintable-json_tokens j (numbers wanted plan l)) in
    ap whole (ap (json.value max_depth) (text ∙ sym (append-nil (json_tokens j)))
    ∙ value-json_tokens j max_depth [] (shallow wanted plan)) ∙ value_read wanted plan l
