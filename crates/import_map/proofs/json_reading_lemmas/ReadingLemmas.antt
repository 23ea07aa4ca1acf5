-- Readings of lists and of members.
use Rattle.std.proofs.Common.{◌≡◌, refl, sym, ◌∙◌, ap, ℕ, List, [], ◌∷◌, ◌++◌, map, Some, Result, Ok, Err, IfOk, append_assoc, append-nil, flat_map, encode_utf8_all}
use Rattle.std.proofs.lemmas.List.Concat.{flat_map-append}
use Rattle.std.proofs.lemmas.Str.{encodes-append}
use Rattle.serde_json.specs.Data.{Data}
use Rattle.serde_json.specs.Find.{as_array}
use Rattle.serde_json.specs.View.{view, items_of, items_view}
use Rattle.serde_json.specs.declared.value.Value.{Value}
use Rattle.import_map.specs.json_reading.Reading.{Reading, and_then, said, before, items_list, each_from, each_of, escaped_char}

-- those so far in front of the rest
abbrev pub prepend : {A : Type 0} → List A → Reading (List A) → Reading (List A)
prepend xs (Ok ys) = Ok (xs ++ ys)
prepend xs (Err at) = Err at

pub prepend-none : {A : Type 0} (r : Reading (List A)) → r ≡ prepend [] r
prepend-none (Ok ys) = refl
prepend-none (Err at) = refl

-- one more of them
pub prepend-before : {A : Type 0} (xs : List A) (x : A) (r : Reading (List A))
    → prepend xs (before x r) ≡ prepend (xs ++ x ∷ []) r
prepend-before xs x (Ok ys) = ap Ok (sym (append_assoc xs (x ∷ []) ys))
prepend-before xs x (Err at) = refl

pub prepend-all : {A : Type 0} (xs : List A) → prepend xs (Ok []) ≡ Ok xs
prepend-all xs = ap Ok (append-nil xs)

-- the items of a list of values are that list
pub items_list-items_of : (ds : List Data) → items_list (items_of ds) ≡ ds
items_list-items_of [] = refl
items_list-items_of (d ∷ ds) = ap (λ es. d ∷ es) (items_list-items_of ds)

-- what the values of a list say
pub each_array : {A : Type 0} (says : Data → Reading A) (value : Data) (vs : List Value)
    → Some (items_view vs) ≡ as_array value
    → each_from says 0 (map view vs) ≡ each_of says value
each_array says value vs is =
    ap (each_from says 0) (sym (items_list-items_of (map view vs)))
    ∙ ap (λ o. and_then (λ items. each_from says 0 (items_list items)) (said o)) is

-- what holds of an `Ok` may be weakened
pub IfOk-map : {T E : Type 0} (r : Result T E) (P Q : T → Type 0) → ((x : T) → P x → Q x) → IfOk r P → IfOk r Q
IfOk-map (Ok x) P Q f p = f x p
IfOk-map (Err e) P Q f p = tt

-- ---- escaped keys

-- one more character
pub escape_more : (cs : List ℕ) (c : ℕ) → encode_utf8_all (flat_map escaped_char (cs ++ c ∷ []))
    ≡ encode_utf8_all (flat_map escaped_char cs) ++ encode_utf8_all (escaped_char c)
escape_more cs c =
    ap encode_utf8_all (flat_map-append escaped_char cs (c ∷ [])
    ∙ ap (λ t. flat_map escaped_char cs ++ t) (append-nil (escaped_char c)))
    ∙ encodes-append (flat_map escaped_char cs) (escaped_char c)
