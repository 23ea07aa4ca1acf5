-- Bundles of JSON values.
use Rattle.std.proofs.Common.{◌≡◌, refl, sym, ◌∙◌, ap, subst, ℕ, ◌+◌, Bool, true, false, List, [], ◌∷◌, ◌++◌, map, Option, Some, None, Result, Ok, Err, is_some, codes, decimal, if◌then◌else◌}
use Rattle.std.specs.List.{list_any}
use Rattle.std.proofs.lemmas.List.{map-append}
use Rattle.url.specs.Parts.{Parts}
use Rattle.graph_entry.specs.declared.answer.LoadAnswer.{LoadAnswer}
use Rattle.graph_builder.specs.declared.options.BuildOptions.{BuildOptions}
use Rattle.graph_entry.specs.Specifier.{text_of}
use Rattle.graph_builder.specs.Reach.{Specifier, has}
use Rattle.graph_builder.specs.ByText.{keys_at, number_of, value_at}
use Rattle.graph_builder.proofs.ByTextLemmas.{has-keys_at}
use Rattle.graph_builder.proofs.NumberLemmas.{absent, present}
use Rattle.graph_builder.specs.Memory.{is_forced}
use Rattle.graph_builder.specs.declared.memory_loader.Arrival.{Arrival}
use Rattle.graph_builder.specs.declared.memory_loader.Arrival.TheVariants.{Answer, Pending}
use Rattle.serde_json.specs.Data.{Data, Items, Members}
use Rattle.serde_json.specs.Find.{as_array, as_object, as_null, get}
use Rattle.serde_json.specs.View.{view, items_view}
use Rattle.serde_json.specs.declared.value.Value.{Value}
use Rattle.import_map.specs.json_reading.Reading.{Reading, and_then, said, bool_of, object_of, before, under, pointer, url_of, items_list, each_from, each_of, or_default, required, optional, only}
use Rattle.import_map.proofs.json_reading_lemmas.ReadingLemmas.{items_list-items_of, prepend, prepend-before}
use Rattle.graph_bundle.specs.Bundle.{modules_from, modules_of, module_after, module_from, new_specifier, headers_of, answer_of, knows_module, arrival_of, options_of, some_import_map, knows_bundle, bundle_from_by, bundle_of, knows_chosen, chosen_from_by, chosen_from, chosen_of, specifiers}
use Rattle.import_map.specs.ImportMap.{MapData}
use Rattle.graph_bundle.specs.declared.bundle.Bundle.{Bundle}
use Rattle.graph_bundle.specs.declared.chosen.ChosenBundle.{ChosenBundle}

-- what the values of a list say
pub modules_array : (value : Data) (vs : List Value) → Some (items_view vs) ≡ as_array value
    → modules_from [] 0 (map view vs) ≡ modules_of value
modules_array value vs is =
    ap (modules_from [] 0) (sym (items_list-items_of (map view vs)))
    ∙ ap (λ o. and_then (λ items. modules_from [] 0 (items_list items)) (said o)) is

-- ---- arrival

under_ok : {A : Type 0} (part : List ℕ) (r : Reading A) (x : A) → under part r ≡ Ok x → r ≡ Ok x
under_ok part (Ok y) x is = is
under_ok part (Err at) x is = absurd (cc)

-- a value of an arrival list never says that an answer comes in any case
chosen_free : (b : Bool) (r : Reading Parts) (a : Arrival)
    → (if b then Ok Pending else and_then (λ url. Ok (Answer url)) r) ≡ Ok a → is_forced a ≡ false
chosen_free true r a is = let same : Pending ≡ a = cc in subst (λ (x : Arrival). is_forced x ≡ false) same refl
chosen_free false (Ok url) a is =
    let same : Answer url ≡ a = cc in subst (λ (x : Arrival). is_forced x ≡ false) same refl
chosen_free false (Err at) a is = absurd (cc)

item_free : (value : Data) (a : Arrival) → arrival_of value ≡ Ok a → is_forced a ≡ false
item_free value a is = chosen_free (is_some (as_null value)) (url_of value) a is

before_free : (part : List ℕ) (r : Reading Arrival) (rest : Reading (List Arrival)) (items : List Arrival)
    → ((a : Arrival) → r ≡ Ok a → is_forced a ≡ false)
    → ((xs : List Arrival) → rest ≡ Ok xs → list_any is_forced xs ≡ false)
    → and_then (λ x. before x rest) (under part r) ≡ Ok items → list_any is_forced items ≡ false
before_free part (Ok a) (Ok xs) items one more is =
    let same : a ∷ xs ≡ items = cc in
    subst (λ (l : List Arrival). list_any is_forced l ≡ false) same (rw (one a refl, more xs refl) refl)
before_free part (Ok a) (Err at) items one more is = absurd (cc)
before_free part (Err at) rest items one more is = absurd (cc)

each_free : (place : ℕ) (values : List Data) (items : List Arrival) → each_from arrival_of place values ≡ Ok items
    → list_any is_forced items ≡ false
each_free place [] items is =
    let same : [] ≡ items = cc in subst (λ (l : List Arrival). list_any is_forced l ≡ false) same refl
each_free place (value ∷ values) items is =
    before_free (decimal place) (arrival_of value) (each_from arrival_of (place + 1) values) items (item_free value)
    (each_free (place + 1) values) is

array_free : (o : Option Items) (items : List Arrival)
    → and_then (λ values. each_from arrival_of 0 (items_list values)) (said o) ≡ Ok items
    → list_any is_forced items ≡ false
array_free None items is = absurd (cc)
array_free (Some values) items is = each_free 0 (items_list values) items is

list_free : (o : Option Data) (items : List Arrival) → or_default (each_of arrival_of) [] o ≡ Ok items
    → list_any is_forced items ≡ false
list_free None items is =
    let same : [] ≡ items = cc in subst (λ (l : List Arrival). list_any is_forced l ≡ false) same refl
list_free (Some value) items is = array_free (as_array value) items is

-- what a bundle's parts say together has the arrival that its part says
unforced_from : (roots : Reading (List Parts)) (options : Reading BuildOptions)
    (modules : Reading (List (Parts × LoadAnswer))) (arrival : Reading (List Arrival))
    (mapped : Reading (Option MapData)) (others : Reading (Unit {0}))
    (bundle : Bundle) → ((xs : List Arrival) → arrival ≡ Ok xs → list_any is_forced xs ≡ false)
    → and_then (λ given. and_then
    (λ wanted. and_then (λ told. and_then (λ order. and_then (λ map_found. and_then (λ done.
    Ok (record { roots = given; options = wanted; modules = told; arrival = order; import_map = map_found }))
    others) mapped) arrival) modules) options) roots ≡ Ok bundle
    → list_any is_forced bundle.arrival ≡ false
unforced_from (Err at) options modules arrival mapped others bundle free is = absurd (cc)
unforced_from (Ok given) (Err at) modules arrival mapped others bundle free is = absurd (cc)
unforced_from (Ok given) (Ok wanted) (Err at) arrival mapped others bundle free is = absurd (cc)
unforced_from (Ok given) (Ok wanted) (Ok told) (Err at) mapped others bundle free is = absurd (cc)
unforced_from (Ok given) (Ok wanted) (Ok told) (Ok order) (Err at) others bundle free is = absurd (cc)
unforced_from (Ok given) (Ok wanted) (Ok told) (Ok order) (Ok map_found) (Err at) bundle free is = absurd (cc)
unforced_from (Ok given) (Ok wanted) (Ok told) (Ok order) (Ok map_found) (Ok done) bundle free is =
    let same : record { roots = given; options = wanted; modules = told; arrival = order; import_map = map_found }
    ≡ bundle = cc in
    subst (λ (b : Bundle). list_any is_forced b.arrival ≡ false) same (free order refl)

object_free : (knows : List ℕ → Bool) (value : Data) (o : Option Members) (bundle : Bundle)
    → and_then (bundle_from_by knows value) (said o) ≡ Ok bundle → list_any is_forced bundle.arrival ≡ false
object_free knows value None bundle is = absurd (cc)
object_free knows value (Some members) bundle is =
    unforced_from (required (each_of url_of) (codes "roots") value) (options_of value)
    (required modules_of (codes "modules") value) (optional (each_of arrival_of) [] (codes "arrival") value)
    (optional some_import_map None (codes "importMap") value) (only knows members) bundle
    (λ xs e. list_free (get (codes "arrival") value) xs
    (under_ok (codes "arrival") (or_default (each_of arrival_of) [] (get (codes "arrival") value)) xs e)) is

-- in a bundle of JSON no answer comes in any case
pub bundle_unforced : (value : Data) (bundle : Bundle) → bundle_of value ≡ Ok bundle
    → list_any is_forced bundle.arrival ≡ false
unfolding bundle_of
bundle_unforced value bundle is = object_free knows_bundle value (as_object value) bundle is

-- what a choice and a bundle say together has the bundle
chosen_bundle : (allowed : Reading Bool) (bundle : Reading Bundle) (chosen : ChosenBundle)
    → and_then (λ a. and_then (λ b. Ok (record { bundle = b; json_without_attribute = a })) bundle) allowed ≡ Ok chosen
    → bundle ≡ Ok chosen.bundle
chosen_bundle (Err at) bundle chosen is = absurd (cc)
chosen_bundle (Ok allowed) (Err at) chosen is = absurd (cc)
chosen_bundle (Ok allowed) (Ok bundle) chosen is =
    let same : record { bundle = bundle; json_without_attribute = allowed } ≡ chosen = cc in
    ap (λ (c : ChosenBundle). Ok c.bundle) same

-- nor in one with choices
pub members_unforced : (knows : List ℕ → Bool) (value : Data) (members : Members) (chosen : ChosenBundle)
    → chosen_from_by knows value members ≡ Ok chosen → list_any is_forced chosen.bundle.arrival ≡ false
members_unforced knows value members chosen is =
    object_free knows value (Some members) chosen.bundle
    (chosen_bundle (optional bool_of false (codes "jsonWithoutAttribute") value) (bundle_from_by knows value members)
    chosen is)

pub chosen_unforced : (value : Data) (chosen : ChosenBundle) → chosen_of value ≡ Ok chosen
    → list_any is_forced chosen.bundle.arrival ≡ false
unfolding chosen_of
chosen_unforced value chosen is = by (as_object value) is
  where
    by : (o : Option Members) → and_then (chosen_from value) (said o) ≡ Ok chosen
        → list_any is_forced chosen.bundle.arrival ≡ false
    by None is = absurd (cc)
    by (Some members) is = members_unforced knows_chosen value members chosen is

-- ---- the next module

-- a specifier that an earlier module has
pub repeated : (earlier : List Specifier) (r : Reading Parts) (url : Parts) → r ≡ Ok url
    → has earlier (text_of url) ≡ true
    → and_then (λ u. if has earlier (text_of u) then Err (pointer (codes "specifier") []) else Ok u) r
    ≡ Err (pointer (codes "specifier") [])
repeated earlier r url is there =
    ap (and_then (λ (u : Parts). if has earlier (text_of u) then Err (pointer (codes "specifier") []) else Ok u)) is
    ∙ ap (λ (b : Bool). if b then Err (pointer (codes "specifier") []) else Ok url) there

-- a new one
pub unrepeated : (earlier : List Specifier) (r : Reading Parts) (url : Parts) → r ≡ Ok url
    → has earlier (text_of url) ≡ false
    → and_then (λ u. if has earlier (text_of u) then Err (pointer (codes "specifier") []) else Ok u) r ≡ Ok url
unrepeated earlier r url is there =
    ap (and_then (λ (u : Parts). if has earlier (text_of u) then Err (pointer (codes "specifier") []) else Ok u)) is
    ∙ ap (λ (b : Bool). if b then Err (pointer (codes "specifier") []) else Ok url) there

-- those so far and the next one
pub next_module : (done : List (Parts × LoadAnswer)) (place : ℕ) (value : Data) (values : List Data)
    (m : Parts × LoadAnswer) → under (decimal place) (module_after (specifiers done) value) ≡ Ok m
    → prepend done (modules_from (specifiers done) place (value ∷ values))
    ≡ prepend (done ++ m ∷ []) (modules_from (specifiers (done ++ m ∷ [])) (place + 1) values)
next_module done place value values m is =
    ap (λ (r : Reading (Parts × LoadAnswer)). prepend done (and_then (λ (x : Parts × LoadAnswer).
    before x (modules_from (specifiers done ++ text_of x.0 ∷ []) (place + 1) values)) r)) is
    ∙ prepend-before done m (modules_from (specifiers done ++ text_of m.0 ∷ []) (place + 1) values)
    ∙ ap (λ (ss : List Specifier). prepend (done ++ m ∷ []) (modules_from ss (place + 1) values))
    (sym (map-append (λ (x : Parts × LoadAnswer). text_of x.0) done (m ∷ [])))

-- a specifier is among those with numbers exactly where it has one
pub has_number : {V : Type 0} (names : List (Parts × V)) (s : Specifier)
    → has (keys_at names) s ≡ is_some (number_of names s)
has_number {V} names s = has-keys_at names s ∙ by (number_of names s) refl
  where
    some : (o : Option V) → (o ≡ None → ⊥) → is_some o ≡ true
    some None h = absurd (h refl)
    some (Some x) h = refl

    by : (o : Option ℕ) → number_of names s ≡ o → is_some (value_at names s) ≡ is_some o
    by None e = ap is_some (absent names s e)
    by (Some n) e = some (value_at names s) (present names s n e)

pub number_none : {V : Type 0} (names : List (Parts × V)) (s : Specifier) → has (keys_at names) s ≡ false
    → number_of names s ≡ None
number_none {V} names s h = by (number_of names s) (sym (has_number names s) ∙ h)
  where
    by : (o : Option ℕ) → is_some o ≡ false → o ≡ None
    by None h = refl
    by (Some n) h = absurd cc

-- what a module's parts say together has the module's specifier
own_answer : (url : Parts) (answer : Reading LoadAnswer) (others : Reading (Unit {0})) (m : Parts × LoadAnswer)
    → and_then (λ a. and_then (λ done. Ok (url, a)) others) answer ≡ Ok m → url ≡ m.0
own_answer url (Err at) others m is = absurd (cc)
own_answer url (Ok a) (Err at) m is = absurd (cc)
own_answer url (Ok a) (Ok done) m is =
    let same : (url, a) ≡ m = cc in ap (λ (p : Parts × LoadAnswer). p.0) same

own_headers : {H : Type 0} (url : Parts) (headers : Reading H) (answer : H → Reading LoadAnswer)
    (others : Reading (Unit {0})) (m : Parts × LoadAnswer)
    → and_then (λ h. and_then (λ a. and_then (λ done. Ok (url, a)) others) (answer h)) headers ≡ Ok m → url ≡ m.0
own_headers url (Err at) answer others m is = absurd (cc)
own_headers url (Ok h) answer others m is = own_answer url (answer h) others m is

-- a module that is read has a specifier that none of the earlier ones has
pub fresh : (earlier : List Specifier) (part : List ℕ) (value : Data) (m : Parts × LoadAnswer)
    → under part (module_after earlier value) ≡ Ok m → has earlier (text_of m.0) ≡ false
fresh earlier part value m is = of_object (object_of value) (under_ok part (module_after earlier value) m is)
  where
    by : (members : Members) (url : Parts) (b : Bool) → has earlier (text_of url) ≡ b
        → and_then (λ u. module_from u value members) (if b then Err (pointer (codes "specifier") []) else Ok url) ≡ Ok m
        → has earlier (text_of m.0) ≡ false
    by members url true there e = absurd (cc)
    by members url false there e =
        subst (λ (u : Parts). has earlier (text_of u) ≡ false)
        (own_headers url (optional headers_of [] (codes "headers") value) (λ h. answer_of h value)
        (only knows_module members) m e) there

    of_url : (members : Members) (r : Reading Parts)
        → and_then (λ u. module_from u value members)
        (and_then (λ u. if has earlier (text_of u) then Err (pointer (codes "specifier") []) else Ok u) r) ≡ Ok m
        → has earlier (text_of m.0) ≡ false
    of_url members (Err at) e = absurd (cc)
    of_url members (Ok url) e = by members url (has earlier (text_of url)) refl e

    of_object : (o : Reading Members)
        → and_then (λ members. and_then (λ u. module_from u value members) (new_specifier earlier value)) o ≡ Ok m
        → has earlier (text_of m.0) ≡ false
    of_object (Err at) e = absurd (cc)
    of_object (Ok members) e = of_url members (required url_of (codes "specifier") value) e
