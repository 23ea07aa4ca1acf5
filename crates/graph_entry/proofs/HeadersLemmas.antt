-- Copies of headers.
use Rattle.std.proofs.Common.{◌≡◌, Bool, true, false, cond, List, [], ◌∷◌, ◌++◌, refl, ap, ◌∙◌, Some, Global, String, string_bytes}
use Rattle.std.specs.Prelude.{ℕ, option_map, bytes_eq}
use Rattle.std.specs.Map.{lookup}
use Rattle.std.specs.BTreeMap.{is_at, insert_entry}
use Rattle.std.specs.declared.cmp.Ordering.{Ordering}
use Rattle.std.specs.declared.cmp.Ordering.TheVariants.{Less, Equal, Greater}
use Rattle.std.specs.Ordering.{nat_cmp, match_ordering}
use Rattle.std.specs.Cmp.Lexicographic.{slice_cmp}
use Rattle.std.specs.String.{string_cmp}
use Rattle.std.proofs.lemmas.Map.Text.{is_eq-slice_cmp}
use Rattle.std.specs.List.{AllZip}
use Rattle.graph_entry.specs.Headers.{header_of, headers_of, header_value, HeaderList, with_header, with_headers}

-- entries whose names and values have the same texts are shown as the same list
pub headers_of-clone : {A : Type 0} (es fs : List (String A × String A))
    → AllZip (λ p q. (string_bytes q.0 ≡ string_bytes p.0) × (string_bytes q.1 ≡ string_bytes p.1)) es fs
    → headers_of fs ≡ headers_of es
headers_of-clone [] [] same = refl
headers_of-clone (e ∷ es) (f ∷ fs) same =
    let first : string_bytes f.0 ≡ string_bytes e.0 = same.0.0 in
    let second : string_bytes f.1 ≡ string_bytes e.1 = same.0.1 in
    let rest = headers_of-clone es fs same.1 in cc
headers_of-clone [] (f ∷ fs) same = absurd same
headers_of-clone (e ∷ es) [] same = absurd same

-- a value by its name, and by the name's text
pub header_value-get : {A : Type 0} (name : List ℕ) (es : List (String A × String A))
    → option_map string_bytes (lookup (is_at (λ k. slice_cmp nat_cmp name (string_bytes k))) es)
    ≡ header_value name (headers_of es)
header_value-get name [] = refl
header_value-get name (e ∷ es) =
    rw (is_eq-slice_cmp name (string_bytes e.0)) (by (bytes_eq name (string_bytes e.0)) (header_value-get name es))
  where
    by : (b : Bool) → option_map string_bytes (lookup (is_at (λ k. slice_cmp nat_cmp name (string_bytes k))) es)
        ≡ header_value name (headers_of es)
        → option_map string_bytes (cond b (Some e.1) (lookup (is_at (λ k. slice_cmp nat_cmp name (string_bytes k))) es))
        ≡ cond b (Some (string_bytes e.1)) (header_value name (headers_of es))
    by true rest = refl
    by false rest = rest

-- ---- one header more

match_same : {A B : Type 0} (f : A → B) (o : Ordering) (x y z : A)
    → f (match_ordering o x y z) ≡ match_ordering o (f x) (f y) (f z)
match_same f Less x y z = refl
match_same f Equal x y z = refl
match_same f Greater x y z = refl

-- an entry goes to its place among the entries' texts
pub headers_of-insert : (es : List (String Global × String Global)) (name value : String Global)
    → headers_of (insert_entry string_cmp es name value)
    ≡ insert_entry (slice_cmp nat_cmp) (headers_of es) (string_bytes name) (string_bytes value)
headers_of-insert [] name value = refl
headers_of-insert (e ∷ es) name value =
    match_same headers_of (string_cmp name e.0) _ _ _
    ∙ ap (λ rest. match_ordering (string_cmp name e.0) (header_of (name, value) ∷ header_of e ∷ headers_of es)
    ((string_bytes e.0, string_bytes value) ∷ headers_of es) (header_of e ∷ rest))
    (headers_of-insert es name value)

-- headers one after the other, and then one more
pub with_headers-push : {A : Type 0} (headers : HeaderList) (es : List (String A × String A)) (e : String A × String A)
    → with_headers headers (headers_of (es ++ e ∷ []))
    ≡ with_header (with_headers headers (headers_of es)) (string_bytes e.0) (string_bytes e.1)
with_headers-push headers [] e = refl
with_headers-push headers (f ∷ es) e =
    with_headers-push (with_header headers (string_bytes f.0) (string_bytes f.1)) es e
