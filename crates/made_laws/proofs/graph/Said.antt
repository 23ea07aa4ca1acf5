-- What the value of a bundle made by number says.
use Rattle.std.proofs.Common.{◌≡◌, ◌∙◌, refl, sym, ap, ℕ, zero, suc, ◌+◌, ◌<◌, ◌≤◌, ◌^◌, Bool, true, false, ◌||◌, List, [], ◌∷◌, ◌++◌, Ok, None, arith}
use Rattle.std.specs.Prelude.{codes, bytes_eq, nat_lt}
use Rattle.std.proofs.lemmas.Bool.{lt-leb}
use Rattle.std.proofs.lemmas.List.Folds.{list_any-append}
use Rattle.std.proofs.lemmas.Slice.Eq.{bytes_eq-Decides}
use Rattle.serde_json.specs.Data.{string}
use Rattle.url.specs.Parser.{parse_url}
use Rattle.import_map.specs.json_reading.Reading.{url_of, each_of, required, under, before, items_list, or_here}
use Rattle.graph_entry.specs.Specifier.{text_of}
use Rattle.graph_builder.specs.Reach.{Specifier, has}
use Rattle.graph_bundle.specs.Bundle.{IsJson, module_after, modules_from, modules_of, options_of, bundle_of}
use Rattle.made_bundle.specs.Made.{made_text}
use Rattle.made_laws.specs.Value.{specifier_text, module_value, made_value}
use Rattle.made_laws.specs.Value as value
use Rattle.made_laws.specs.Urls.{url_at}
use Rattle.made_laws.proofs.Theorems.{made_utf8, made_read, serialize_at, specifier_read, specifier_injective, first_specifier}
use Rattle.made_laws.specs.graph.Bundle.{module_at, modules_at, bundle_at}

-- ---- specifiers

pub text_at : (i : ℕ) → text_of (url_at i) ≡ specifier_text i
unfolding text_of
text_at i = serialize_at i

pub apart : (i j : ℕ) → i < j → j < 2 ^ 62 → bytes_eq (text_of (url_at j)) (text_of (url_at i)) ≡ false
apart i j less few = by (bytes_eq (text_of (url_at j)) (text_of (url_at i))) refl
  where
    by : (b : Bool) → bytes_eq (text_of (url_at j)) (text_of (url_at i)) ≡ b → b ≡ false
    by true is =
        let same : specifier_text j ≡ specifier_text i
        = sym (text_at j) ∙ (bytes_eq-Decides (text_of (url_at j)) (text_of (url_at i))).0 is ∙ text_at i in
        let bad : j ≡ i = specifier_injective j i (omega (arith, few)) (omega (arith, less, few)) same in
        absurd (let none : ⊥ = omega (arith, bad, less) in none)
    by false is = refl

-- the specifiers so far have none of the modules from this one on
abbrev AreBefore : ℕ → List Specifier → Type 0
AreBefore i earlier = (j : ℕ) → i ≤ j → j < 2 ^ 62 → has earlier (text_of (url_at j)) ≡ false

one_more : (i : ℕ) (earlier : List Specifier) → AreBefore i earlier
    → AreBefore (suc i) (earlier ++ text_of (url_at i) ∷ [])
one_more i earlier h j le few =
    list_any-append (bytes_eq (text_of (url_at j))) earlier (text_of (url_at i) ∷ [])
    ∙ ap (λ (b : Bool). b || (bytes_eq (text_of (url_at j)) (text_of (url_at i)) || false))
    (h j (omega (arith, le)) few)
    ∙ ap (λ (b : Bool). b || false) (apart i j (omega (arith, le)) few)

-- ---- modules

url_said : (i : ℕ) → i < 2 ^ 62 → url_of (string (specifier_text i)) ≡ Ok (url_at i)
url_said i few = ap or_here (specifier_read i None (omega (arith, few)))

module_said : (count i : ℕ) (earlier : List Specifier) → i < 2 ^ 62 → has earlier (text_of (url_at i)) ≡ false
    → module_after earlier (module_value count i) ≡ Ok (module_at count i)
module_said count i earlier few new = rw (specifier_read i None (omega (arith, few))) (rw new refl)

modules_said : (count i k place : ℕ) (earlier : List Specifier) → i + k < 2 ^ 62 → AreBefore i earlier
    → modules_from earlier place (items_list (value.modules_from count i k)) ≡ Ok (modules_at count i k)
modules_said count i zero place earlier few h = refl
modules_said count i (suc k) place earlier few h =
    rw (module_said count i earlier (omega (arith, few)) (h i (omega arith) (omega (arith, few))))
    (ap (before (module_at count i))
    (modules_said count (suc i) k (place + 1) (earlier ++ text_of (url_at i) ∷ []) (omega (arith, few))
    (one_more i earlier h)))

-- ---- the whole

root_said : parse_url None (codes "file:///m/0.ts") ≡ Ok (url_at 0)
root_said = ap (parse_url None) (sym first_specifier) ∙ specifier_read 0 None (omega arith)

limited : (count : ℕ) → 1 ≤ count → count ≤ 100000
    → (nat_lt count 1 || nat_lt 1000000 count) ≡ false
limited count some few = rw (lt-leb (suc count) 1 (omega (arith, some))) (lt-leb 1000001 count (omega (arith, few)))

roots_said : (count : ℕ) → required (each_of url_of) (codes "roots") (made_value count) ≡ Ok (url_at 0 ∷ [])
roots_said count = rw root_said refl

options_said : (count : ℕ) → 1 ≤ count → count ≤ 100000 → options_of (made_value count) ≡ Ok (bundle_at count).options
options_said count some few = rw (limited count some few) refl

list_said : (count : ℕ) → count ≤ 100000
    → required modules_of (codes "modules") (made_value count) ≡ Ok (modules_at count 0 count)
list_said count few =
    ap (under (codes "modules")) (modules_said count 0 count 0 [] (omega (arith, few)) (λ j le l. refl))

pub made_says : (count : ℕ) → 1 ≤ count → count ≤ 100000 → bundle_of (made_value count) ≡ Ok (bundle_at count)
unfolding bundle_of
made_says count some few =
    rw (roots_said count) (rw (options_said count some few) (rw (list_said count few) refl))

pub made_json : (count : ℕ) → count ≤ 100000 → IsJson (made_text count) (made_value count)
made_json count few = (made_utf8 count (omega (arith, few)), made_read count (omega (arith, few)))
